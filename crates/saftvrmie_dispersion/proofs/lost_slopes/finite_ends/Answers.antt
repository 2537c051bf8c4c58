-- `saftvrmie_dispersion::lost_slopes::finite_ends` meets its contract. Assumes nothing.
use Rattle.saftvrmie_dispersion.specs.Slope.{finite_ends}
use Rattle.saftvrmie_dispersion.proofs.lost_slopes.finite_ends.Goals as goal

pub returns : goal.returns
unfolding finite_ends
returns c = c.is_finite.ensures
