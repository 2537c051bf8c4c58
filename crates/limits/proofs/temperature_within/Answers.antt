-- `limits::temperature_within` meets its contract. Assumes nothing.
use Rattle.limits.specs.Limits.{in_limits, temperature_within}
use lib.Ieee.{of_bits}
use Rattle.number.specs.Arith.{decimal}
use Rattle.limits.proofs.temperature_within.Goals as goal

pub returns : goal.returns
unfolding temperature_within in_limits decimal of_bits
returns c = rw c.within.ensures
