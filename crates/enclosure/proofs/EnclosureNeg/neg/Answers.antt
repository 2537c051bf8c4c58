-- `enclosure::EnclosureNeg::neg` meets its contract. Assumes nothing.
use Rattle.enclosure.specs.Enclosure.{neg_e}
use Rattle.enclosure.proofs.EnclosureNeg.neg.Goals as goal

pub returns : goal.returns
unfolding neg_e
returns c =
    rw
    c.neg.ensures
