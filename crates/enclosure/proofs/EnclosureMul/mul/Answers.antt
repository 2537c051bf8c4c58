-- `enclosure::EnclosureMul::mul` meets its contract. Assumes nothing.
use Rattle.enclosure.specs.Enclosure.{mul_e}
use Rattle.enclosure.proofs.EnclosureMul.mul.Goals as goal

pub returns : goal.returns
unfolding mul_e
returns c =
    rw
    c.mul.ensures
