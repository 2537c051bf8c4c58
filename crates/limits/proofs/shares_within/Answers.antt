-- `limits::shares_within` meets its contract. Assumes nothing.
use Rattle.limits.specs.Limits.{shares_within}
use lib.Ieee.{of_bits}
use Rattle.number.specs.Arith.{decimal}
use Rattle.limits.proofs.shares_within.Goals as goal

pub returns : goal.returns
unfolding shares_within decimal of_bits
returns c = rw c.all_within.ensures
