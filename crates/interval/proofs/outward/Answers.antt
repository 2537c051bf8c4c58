-- `interval::outward` meets its contract. Assumes nothing.
use Rattle.interval.specs.Interval.{outward}
use Rattle.interval.proofs.outward.Goals as goal

pub returns : goal.returns
unfolding outward
returns c =
    rw (
      c.is_finite-2.ensures,
      c.is_finite.ensures,
      c.next_up-upper.ensures,
      c.next_down-lower.ensures,
    )
