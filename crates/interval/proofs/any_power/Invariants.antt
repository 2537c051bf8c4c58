-- `interval::any_power` meets its contract. Assumes nothing.
use Rattle.number.specs.Arith.{one64}
use Rattle.interval.specs.Interval.{mul_i, point}
use Rattle.number.proofs.Power.{Turn}
use Rattle.interval.proofs.any_power.Given as goal

abbrev pub invariant-loop-left : goal.invariant-loop-left
invariant-loop-left l = Turn mul_i (point one64) l.initial.sq l.n l.acc l.sq l.left

abbrev pub decreases-loop-left : goal.decreases-loop-left
decreases-loop-left l = l.left
