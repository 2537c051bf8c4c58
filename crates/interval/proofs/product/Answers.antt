-- `interval::product` meets its contract. Assumes nothing.
use Rattle.interval.proofs.Near.{right_chosen, in_order_of}
use mathlib.Core.Bool.{true}
use mathlib.Core.Path.{refl, ◌∙◌}
use lib.Ieee.{of_bits}
use Rattle.interval.proofs.product.Goals as goal

pub stepped-requires : goal.stepped-requires
unfolding of_bits
stepped-requires c = in_order_of true _ _ _ (right_chosen true _ _ _ _ _ _ c.if-xu-xl.true c.chosen.ensures c.chosen-then-xu-xl.ensures)

pub returns-in-Some : goal.returns-in-Some
unfolding of_bits
returns-in-Some c = let e = c.in-Some.ensures in e.2 ∙ (right_chosen _ _ _ _ _ _ _ c.if-xu-xl.true c.chosen.ensures c.chosen-then-xu-xl.ensures (e.0, e.1)).is
