-- `saftvrmie_dispersion::lost_slopes::is_tiny` meets its contract. Assumes nothing.
use Rattle.saftvrmie_dispersion.specs.Slope.{tiny_slope}
use Rattle.saftvrmie_dispersion.proofs.lost_slopes.is_tiny.Goals as goal

pub returns : goal.returns
unfolding tiny_slope
returns c = rw (c.tiny-2.ensures, c.tiny.ensures)
