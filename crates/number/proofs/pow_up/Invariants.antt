-- `number::pow_up` meets its contract. Assumes nothing.
use Rattle.number.specs.Arith.{floats, one64}
use Rattle.number.proofs.Power.{Turn}
use Rattle.number.proofs.pow_up.Given as goal

abbrev pub invariant-loop-left : goal.invariant-loop-left
invariant-loop-left l = Turn floats.mul one64 l.x l.n l.acc l.sq l.left

abbrev pub decreases-loop-left : goal.decreases-loop-left
decreases-loop-left l = l.left
