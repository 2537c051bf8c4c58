-- `interval::IntervalMul::mul` meets its contract. Assumes nothing.
use Rattle.interval.proofs.Near.{left_chosen, in_order_of}
use mathlib.Core.Path.{refl, ◌∙◌}
use mathlib.Core.Bool.{true}
use lib.Ieee.{of_bits}
use Rattle.interval.specs.Interval.{mul_i}
use Rattle.interval.proofs.IntervalMul.mul.Goals as goal

pub stepped-requires : goal.stepped-requires
unfolding of_bits
stepped-requires c = in_order_of true _ _ _ (left_chosen true _ _ _ _ _ _ c.if-self-y.true c.chosen.ensures c.chosen-then-self-y.ensures)

pub returns-in-Some : goal.returns-in-Some
unfolding mul_i of_bits
returns-in-Some c = let e = c.in-Some.ensures in e.2 ∙ (left_chosen _ _ _ _ _ _ _ c.if-self-y.true c.chosen.ensures c.chosen-then-self-y.ensures (e.0, e.1)).is

pub returns : goal.returns
unfolding mul_i of_bits
returns c = c.product-q.ensures
