-- `interval::Interval::pow_down` meets its contract. Assumes nothing.
use Rattle.interval.specs.Interval.{down_i}
use Rattle.interval.proofs.Interval.pow_down.Goals as goal

pub returns : goal.returns
unfolding down_i
returns c =
    rw (
      c.div.ensures,
      c.pow_up.ensures,
      c.point.ensures,
    )
