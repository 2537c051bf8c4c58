-- `saftvrmie_dispersion::lost_slopes::is_lost` meets its contract. Assumes nothing.
use Rattle.saftvrmie_dispersion.specs.Slope.{lost_in}
use lib.Ieee.{of_bits}
use Rattle.saftvrmie_dispersion.proofs.lost_slopes.is_lost.Goals as goal

pub returns : goal.returns
unfolding lost_in of_bits
returns c = rw (c.moderate-2.ensures, c.moderate.ensures, c.stays-2.ensures, c.stays.ensures)
