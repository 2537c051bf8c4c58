-- `desk_place::answer` meets its contract. Assumes nothing.
use Rattle.mie_parameters.proofs.Laws.{inside}
use Rattle.desk_place.proofs.Steps.{answer_7, answer_is, wanted_is, part_to}
use Rattle.desk_place.proofs.Parts.{part_length}
use native.Mathlib.Omega.{arith}
use Rattle.number.proofs.Walk.{told}
use Rattle.desk_place.proofs.answer.Goals as goal

pub returns-then-not-all_finite : goal.returns-then-not-all_finite
returns-then-not-all_finite c = answer_7 (record { floats = c.args.floats.now; bytes = c.args.bytes.now }) (told (c.all_finite.ensures (part_length 901 576 c.args.floats.now (omega (arith, c.requires.0)))) c.if-not-all_finite.true)

pub overflow_add-x : goal.overflow_add-x
overflow_add-x c = let h = inside _ _ _ c.args.hand.within in let a = h.high in omega (arith, a)

pub slice_bounds-x-end : goal.slice_bounds-x-end
slice_bounds-x-end c = let h = inside _ _ _ c.args.hand.within in let a = h.high in omega (arith, a, c.requires.0)

pub overflow_add-rho : goal.overflow_add-rho
overflow_add-rho c = let h = inside _ _ _ c.args.hand.within in let a = h.high in omega (arith, a)

pub slice_bounds-rho-end : goal.slice_bounds-rho-end
slice_bounds-rho-end c = let h = inside _ _ _ c.args.hand.within in let a = h.high in omega (arith, a, c.requires.0)

pub returns : goal.returns
returns c = answer_is (record { floats = c.args.floats.now; bytes = c.args.bytes.now }) _ _ _ _ _ _ _ _ (told (c.all_finite.ensures (part_length 901 576 c.args.floats.now (omega (arith, c.requires.0)))) c.if-not-all_finite.false) c.requires.1.1 c.places-m.ensures c.flat-sheets.ensures c.order_records-orders.ensures (wanted_is c.args.bytes.now c.byte_at-wanted.result c.byte_at-wanted.ensures) (part_to 13 c.args.hand.count c.args.floats.now) (part_to 25 c.args.hand.count c.args.floats.now) c.energies_of.ensures
