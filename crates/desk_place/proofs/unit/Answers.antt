-- `desk_place::unit` meets its contract. Assumes nothing.
use Rattle.desk_place.proofs.Steps.{row_below, column_below, unit_6, unit_on, worked_6, worked_held, tabled_at}
use Rattle.desk_place.proofs.Parts.{part_length}
use Rattle.saftvrqmie_properties.specs.Properties.{properties_by, pair_properties}
use native.Mathlib.Omega.{arith}
use borrow.Author.Rules.{rules}
use Rattle.desk_place.proofs.unit.Goals as goal

pub overflow_mul-e : goal.overflow_mul-e
overflow_mul-e c = let a = row_below _ _ _ c.in_hand-hand.result.within in let b = column_below _ _ _ c.in_hand-hand.result.within in omega (arith, a, b)

pub overflow_add-e : goal.overflow_add-e
overflow_add-e c = let a = row_below _ _ _ c.in_hand-hand.result.within in let b = column_below _ _ _ c.in_hand-hand.result.within in omega (arith, a, b)

pub pair_here-pair-requires : goal.pair_here-pair-requires
pair_here-pair-requires c = (c.requires.0, c.requires.1.0, let a = row_below _ _ _ c.in_hand-hand.result.within in let b = column_below _ _ _ c.in_hand-hand.result.within in omega (arith, a, b))

pub returns-in-Err : goal.returns-in-Err
unfolding pair_properties properties_by
returns-in-Err c = unit_6 (record { floats = c.args.floats.now; bytes = c.args.bytes.now }) _ (worked_6 (record { floats = c.args.floats.now; bytes = c.args.bytes.now }) _ _ _ _ c.in_hand-hand.ensures.2 c.in_hand-hand.ensures.3 c.pair_here-pair.ensures c.pair_properties.ensures c.in-Err.is)

pub store-requires : goal.store-requires
store-requires c = (part_length 901 576 c.args.floats.now (omega (arith, c.requires.0)), let a = row_below _ _ _ c.in_hand-hand.result.within in let b = column_below _ _ _ c.in_hand-hand.result.within in omega (arith, a, b))

pub settle-requires : goal.settle-requires
settle-requires c = (search rules, c.in_hand-hand.ensures)

pub returns-in-Ok : goal.returns-in-Ok
unfolding pair_properties properties_by
returns-in-Ok c = unit_on (record { floats = c.args.floats.now; bytes = c.args.bytes.now }) _ _ _ _ (worked_held (record { floats = c.args.floats.now; bytes = c.args.bytes.now }) _ _ _ _ _ c.in_hand-hand.ensures.2 c.in_hand-hand.ensures.3 c.pair_here-pair.ensures c.pair_properties.ensures c.in-Ok.is) (tabled_at (record { floats = c.args.floats.now; bytes = c.args.bytes.now }) _ _ _ c.requires.0 c.store.ensures) c.settle.ensures.0 c.settle.ensures.1
