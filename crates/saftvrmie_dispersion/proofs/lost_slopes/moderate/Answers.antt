-- `saftvrmie_dispersion::lost_slopes::moderate` meets its contract. Assumes nothing.
use Rattle.saftvrmie_dispersion.proofs.Lost.{moderate_by}
use Rattle.saftvrmie_dispersion.proofs.lost_slopes.moderate.Goals as goal

pub returns : goal.returns
returns c = moderate_by _ _ c.well_formed.0.1 c.well_formed.1.0.1
