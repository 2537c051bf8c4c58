-- `interval::third` meets its contract. Assumes nothing.
use Rattle.interval.proofs.Near.{third_is}
use Rattle.interval.proofs.third.Goals as goal

pub returns : goal.returns
returns c = rw (c.mul-3.ensures, c.mul-2.ensures, c.mul.ensures, c.point.ensures) (third_is _)
