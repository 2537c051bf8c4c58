-- `enclosure::EnclosureSub::sub` meets its contract. Assumes nothing.
use Rattle.enclosure.specs.Enclosure.{sub_e}
use Rattle.enclosure.proofs.EnclosureSub.sub.Goals as goal

pub returns : goal.returns
unfolding sub_e
returns c =
    rw
    c.sub.ensures
