-- `limits::state_within` meets its contract. Assumes nothing.
use Rattle.limits.specs.Limits.{state_within}
use Rattle.limits.proofs.state_within.Goals as goal

pub returns : goal.returns
unfolding state_within
returns c =
    rw (
      c.shares_within-2.ensures,
      c.shares_within.ensures,
      c.temperature_within.ensures,
      c.requires.0,
      c.requires.1,
    )
