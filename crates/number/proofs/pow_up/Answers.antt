-- `number::pow_up` meets its contract. Assumes nothing.
use Rattle.std.proofs.Common.{◌≡◌, rules, eq-eqb, ne_eqb}
use Rattle.number.specs.Arith.{floats, one64}
use Rattle.number.proofs.Power.{start, done, times, turn_more, turn_last}
use Rattle.number.proofs.pow_up.Goals as goal
use Rattle.number.proofs.pow_up.Goals.{Joined-left-eq1, then-left-eq1, else-left-eq1}

pub loop-left-init : goal.loop-left-init
loop-left-init c = start floats.mul one64 c.args.x c.args.n c.ranges.n.fits

-- where the arms of `if left % 2 == 1` meet
acc_is : (c : Joined-left-eq1) → c.if-left-eq1.acc ≡ times floats.mul c.loop-left.left c.loop-left.sq c.loop-left.acc
acc_is c = elim c.if-left-eq1.branch [ then-left-eq1 w ↦ rw (eq-eqb _ _ w.if-left-eq1.true) w.acc-is | else-left-eq1 w ↦ rw (ne_eqb _ _ w.if-left-eq1.false) w.acc-is ]

pub loop-left-preserved-then-left-gt0 : goal.loop-left-preserved-then-left-gt0
loop-left-preserved-then-left-gt0 c = rw (acc_is c.before) (turn_more floats.mul _ _ _ _ _ _ c.if-left-gt0.true c.loop-left.invariant)

pub loop-left-preserved : goal.loop-left-preserved
loop-left-preserved c = rw (acc_is c.before) (turn_last floats.mul _ _ _ _ _ _ (search rules) c.if-left-gt0.false c.loop-left.invariant)

pub returns : goal.returns
returns c = done floats.mul _ _ _ _ _ _ c.loop-left-test.false c.loop-left.invariant
