-- `interval::any_power` meets its contract. Assumes nothing.
use Rattle.interval.specs.Interval.{pow_i}
use borrow.Author.Rules.{rules}
use mathlib.Core.Path.{◌≡◌, ◌∙◌}
use borrow.Author.Tests.{eq-eqb, ne_eqb}
use Rattle.interval.specs.Interval.{mul_i}
use Rattle.number.proofs.Power.{start, done, times, turn_more, turn_last}
use Rattle.interval.proofs.any_power.Goals as goal
use Rattle.interval.proofs.any_power.Goals.{Joined-left-eq1, then-left-eq1, else-left-eq1}

pub loop-left-init : goal.loop-left-init
loop-left-init c = rw c.point-acc.ensures (start mul_i _ _ _ c.ranges.n.fits)

acc_is : (c : Joined-left-eq1) → c.if-left-eq1.acc ≡ times mul_i c.loop-left.left c.loop-left.sq c.loop-left.acc
unfolding mul_i
acc_is c =
    elim c.if-left-eq1.branch [
      | then-left-eq1 w ↦ rw (eq-eqb _ _ w.if-left-eq1.true) (w.acc-is ∙ w.product-acc.ensures)
      | else-left-eq1 w ↦ rw (ne_eqb _ _ w.if-left-eq1.false) w.acc-is
    ]

pub loop-left-preserved-then-left-gt0 : goal.loop-left-preserved-then-left-gt0
unfolding mul_i
loop-left-preserved-then-left-gt0 c =
    rw (acc_is c.before.before.before, c.product-sq.ensures)
    (turn_more mul_i _ _ _ _ _ _ c.if-left-gt0.true c.loop-left.invariant)

pub loop-left-preserved : goal.loop-left-preserved
loop-left-preserved c = rw (acc_is c.before) (turn_last mul_i _ _ _ _ _ _ (search rules) c.if-left-gt0.false c.loop-left.invariant)

pub returns : goal.returns
unfolding pow_i
returns c = done mul_i _ _ _ _ _ _ c.loop-left-test.false c.loop-left.invariant
