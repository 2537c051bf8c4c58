-- `saftvrqmie_energies_slopes::is_finite` meets its contract. Assumes nothing.
use Rattle.dual.specs.Value.{dual_of}
use Rattle.saftvrqmie_energies_slopes.specs.Energies.{finite_dual}
use Rattle.saftvrqmie_energies_slopes.proofs.is_finite.Goals as goal

pub returns : goal.returns
unfolding finite_dual dual_of
returns c = rw (c.is_finite-2.ensures, c.is_finite.ensures)
