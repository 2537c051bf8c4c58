-- `saftvrqmie_tank::EnclosureLayerRun::energies` meets its contract. Assumes nothing.
use Rattle.saftvrqmie_energies_ends.specs.Operation.{energies_enclosed}
use Rattle.saftvrqmie_tank.proofs.EnclosureLayerRun.energies.Goals as goal

pub returns : goal.returns
unfolding energies_enclosed
returns c = c.enclosures_of.ensures
