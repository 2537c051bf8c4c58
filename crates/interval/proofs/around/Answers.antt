-- `interval::around` meets its contract. Assumes nothing.
use Rattle.interval.specs.Interval.{around}
use Rattle.interval.proofs.around.Goals as goal

pub returns : goal.returns
unfolding around
returns c =
    rw (
      c.outward.ensures,
      c.greatest-upper.ensures,
      c.greatest-2.ensures,
      c.greatest.ensures,
      c.least-lower.ensures,
      c.least-2.ensures,
      c.least.ensures,
    )
