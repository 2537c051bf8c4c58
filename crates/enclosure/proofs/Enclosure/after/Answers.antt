-- `enclosure::Enclosure::after` meets its contract. Assumes nothing.
use Rattle.enclosure.specs.Enclosure.{after_e}
use Rattle.enclosure.proofs.Enclosure.after.Goals as goal

pub returns : goal.returns
unfolding after_e
returns c =
    rw
    c.after.ensures
