-- `limits::component_within` meets its contract. Assumes nothing.
use Rattle.limits.specs.Limits.{in_limits, component_within}
use lib.Ieee.{of_bits}
use Rattle.number.specs.Arith.{decimal}
use Rattle.limits.proofs.component_within.Goals as goal

pub returns : goal.returns
unfolding component_within in_limits decimal of_bits
returns c = rw (c.within-2.ensures, c.within.ensures)
