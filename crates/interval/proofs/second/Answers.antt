-- `interval::second` meets its contract. Assumes nothing.
use Rattle.interval.proofs.Near.{second_is}
use Rattle.interval.proofs.second.Goals as goal

pub returns : goal.returns
returns c = rw (c.mul-2.ensures, c.mul.ensures, c.point.ensures) (second_is _)
