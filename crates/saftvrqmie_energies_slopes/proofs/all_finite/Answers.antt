-- `saftvrqmie_energies_slopes::all_finite` meets its contract. Assumes nothing.
use Rattle.saftvrqmie_energies_slopes.specs.Energies.{slopes_finite}
use Rattle.saftvrqmie_energies_slopes.proofs.all_finite.Goals as goal

pub returns : goal.returns
unfolding slopes_finite
returns c = rw (c.is_finite-3.ensures, c.is_finite-2.ensures, c.is_finite.ensures)
