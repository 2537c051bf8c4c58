-- `limits::masses_within` meets its contract. Assumes nothing.
use Rattle.limits.specs.Limits.{masses_within}
use lib.Ieee.{of_bits}
use Rattle.number.specs.Arith.{decimal}
use Rattle.limits.proofs.masses_within.Goals as goal

pub returns : goal.returns
unfolding masses_within decimal of_bits
returns c = rw c.all_within.ensures
