-- `limits::segments_within` meets its contract. Assumes nothing.
use Rattle.limits.specs.Limits.{segments_within}
use lib.Ieee.{of_bits}
use Rattle.number.specs.Arith.{decimal}
use Rattle.limits.proofs.segments_within.Goals as goal

pub returns : goal.returns
unfolding segments_within decimal of_bits
returns c = rw c.all_within.ensures
