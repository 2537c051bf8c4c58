-- `enclosure::EnclosureAdd::add` meets its contract. Assumes nothing.
use Rattle.enclosure.specs.Enclosure.{add_e}
use Rattle.enclosure.proofs.EnclosureAdd.add.Goals as goal

pub returns : goal.returns
unfolding add_e
returns c =
    rw
    c.add.ensures
