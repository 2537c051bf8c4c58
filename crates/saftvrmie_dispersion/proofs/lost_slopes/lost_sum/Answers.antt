-- `saftvrmie_dispersion::lost_slopes::lost_sum` meets its contract. Assumes nothing.
use Rattle.saftvrmie_dispersion.specs.Slope.{lost_sum}
use lib.Ieee.{of_bits}
use Rattle.saftvrmie_dispersion.proofs.lost_slopes.lost_sum.Goals as goal

pub returns : goal.returns
unfolding lost_sum of_bits
returns c = c.add.ensures
