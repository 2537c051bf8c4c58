-- `enclosure_dual::EnclosureDual::plain` meets its contract. Assumes nothing.
use Rattle.enclosure_dual.specs.Value.{dual_of}
use Rattle.dual.specs.Dual.{plain_d}
use Rattle.enclosure_dual.proofs.EnclosureDual.plain.Goals as goal

pub returns : goal.returns
unfolding plain_d dual_of
returns c =
    rw
    c.point.ensures
