-- `card_writer::moved` meets its contract. Assumes nothing.
use Rattle.number.proofs.Walk.{handed_on}
use native.Mathlib.Omega.{arith}
use mathlib.Core.Path.{ap}
use mathlib.Core.Bool.{not}
use Rattle.card.specs.Card.{form_of, is_newer, number_of}
use Rattle.card.proofs.Reading.{total_small}
use Rattle.card.proofs.Whole.{twelve}
use Rattle.card_writer.specs.Writing.{CardRoom}
use Rattle.card_writer.proofs.Stored.{refused_verdict, refused_stored, counts, moved_refused, moved_many, moved_goes, part_many}
use Rattle.card_writer.proofs.moved.Goals as goal

pub returns-in_err-head : goal.returns-in_err-head
returns-in_err-head c = let s = moved_refused (form_of (is_newer c.args.form)) (form_of (not (is_newer c.args.form))) c.args.card.now (record { card = c.args.to.now; length = c.args.told.now }) _ _ c.read.ensures.0 _ c.in_err-head.was in rw (handed_on _ c.from_residual.ensures) (refused_verdict (record { card = c.args.to.now; length = c.args.told.now }) _ _ s, ap (λ (x : CardRoom). x.card) (refused_stored (record { card = c.args.to.now; length = c.args.told.now }) _ _ s), ap (λ (x : CardRoom). x.length) (refused_stored (record { card = c.args.to.now; length = c.args.told.now }) _ _ s))

pub returns-then-most-head : goal.returns-then-most-head
returns-then-most-head c = let s = moved_many (form_of (is_newer c.args.form)) (form_of (not (is_newer c.args.form))) c.args.card.now (record { card = c.args.to.now; length = c.args.told.now }) _ _ c.read.ensures.0 c.in_ok-head.head c.in_ok-head.was (rw (c.most.ensures, c.other-other.ensures) at c.if-most-head.true) in (refused_verdict (record { card = c.args.to.now; length = c.args.told.now }) _ 16 s, ap (λ (x : CardRoom). x.card) (refused_stored (record { card = c.args.to.now; length = c.args.told.now }) _ 16 s), ap (λ (x : CardRoom). x.length) (refused_stored (record { card = c.args.to.now; length = c.args.told.now }) _ 16 s))

pub value_count-total-requires : goal.value_count-total-requires
value_count-total-requires c = ((counts (form_of (is_newer c.args.form)) (form_of (not (is_newer c.args.form))) c.args.card.now (record { card = c.args.to.now; length = c.args.told.now }) _ _ c.read.ensures.0 c.in_ok-head.head c.in_ok-head.was).some, twelve (is_newer c.args.form) _ (counts (form_of (is_newer c.args.form)) (form_of (not (is_newer c.args.form))) c.args.card.now (record { card = c.args.to.now; length = c.args.told.now }) _ _ c.read.ensures.0 c.in_ok-head.head c.in_ok-head.was).most)

pub slice_bounds-store-end : goal.slice_bounds-store-end
slice_bounds-store-end c = omega (arith, total_small (number_of c.in_ok-head.head.kind) c.in_ok-head.head.count _ (twelve (is_newer c.args.form) _ (counts (form_of (is_newer c.args.form)) (form_of (not (is_newer c.args.form))) c.args.card.now (record { card = c.args.to.now; length = c.args.told.now }) _ _ c.read.ensures.0 c.in_ok-head.head c.in_ok-head.was).most) c.value_count-total.ensures)

pub store-requires : goal.store-requires
store-requires c = ((counts (form_of (is_newer c.args.form)) (form_of (not (is_newer c.args.form))) c.args.card.now (record { card = c.args.to.now; length = c.args.told.now }) _ _ c.read.ensures.0 c.in_ok-head.head c.in_ok-head.was).some, twelve (is_newer c.args.form) _ (counts (form_of (is_newer c.args.form)) (form_of (not (is_newer c.args.form))) c.args.card.now (record { card = c.args.to.now; length = c.args.told.now }) _ _ c.read.ensures.0 c.in_ok-head.head c.in_ok-head.was).most, part_many _ _ (number_of c.in_ok-head.head.kind) c.in_ok-head.head.count (omega arith) (twelve (is_newer c.args.form) _ (counts (form_of (is_newer c.args.form)) (form_of (not (is_newer c.args.form))) c.args.card.now (record { card = c.args.to.now; length = c.args.told.now }) _ _ c.read.ensures.0 c.in_ok-head.head c.in_ok-head.was).most) c.value_count-total.ensures)

pub returns : goal.returns
returns c = let g = moved_goes (form_of (is_newer c.args.form)) (form_of (not (is_newer c.args.form))) c.args.card.now (record { card = c.args.to.now; length = c.args.told.now }) _ _ c.read.ensures.0 c.in_ok-head.head c.in_ok-head.was _ (rw (c.most.ensures, c.other-other.ensures) at c.if-most-head.false) c.value_count-total.ensures in (rw (g, ← c.other-other.ensures) c.store.ensures.0, rw (g, ← c.other-other.ensures) c.store.ensures.1, rw (g, ← c.other-other.ensures) c.store.ensures.2)
