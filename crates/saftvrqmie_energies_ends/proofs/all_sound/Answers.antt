-- `saftvrqmie_energies_ends::all_sound` meets its contract. Assumes nothing.
use mathlib.Core.Path.{refl}
use Rattle.saftvrqmie_energies_ends.specs.Operation.{all_sound}
use Rattle.saftvrqmie_energies_ends.proofs.all_sound.Goals as goal

pub returns : goal.returns
unfolding all_sound
returns c = refl
