-- `saftvrqmie_energies::all_finite` meets its contract. Assumes nothing.
use mathlib.Core.Bool.{true}
use Rattle.saftvrqmie_energies.specs.Energies.{energies_finite}
use Rattle.saftvrqmie_energies.proofs.all_finite.Goals as goal

pub returns : goal.returns
unfolding energies_finite
returns g c = rw (c.is_finite-3.ensures, c.is_finite-2.ensures, c.is_finite.ensures, c.re-3.ensures true, c.re-2.ensures true, c.re.ensures true)
