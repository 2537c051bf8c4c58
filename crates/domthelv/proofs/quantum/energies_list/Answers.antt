-- `domthelv::quantum::energies_list` meets its contract. Assumes nothing.
use mathlib.Core.Path.{refl}
use Rattle.domthelv.specs.Operations.{energies_written}
use Rattle.domthelv.proofs.Places.{three_places}
use Rattle.domthelv.proofs.quantum.energies_list.Goals as goal

pub returns : goal.returns
unfolding energies_written
returns c = (refl, three_places _ _ _)
