-- `enclosure::EnclosureDiv::div` meets its contract. Assumes nothing.
use Rattle.enclosure.specs.Enclosure.{div_e}
use Rattle.enclosure.proofs.EnclosureDiv.div.Goals as goal

pub returns : goal.returns
unfolding div_e
returns c =
    rw
    c.div.ensures
