-- `saftvrqmie_dispersion_sums::segment_state` meets its contract. Assumes nothing.
use mathlib.Core.Bool.{true}
use Rattle.saftvrqmie_dispersion_sums.specs.Dispersion.{mixture}
use Rattle.saftvrqmie_dispersion_sums.proofs.segment_state.Goals as goal

pub returns : goal.returns
unfolding mixture
returns g c x q = rw (c.packing-zeta_bar.ensures x q, c.packing-zeta.ensures x q, c.segment_density-rho_s.ensures true)
