-- `enclosure_dual::EnclosureDualAdd::add` meets its contract. Assumes nothing.
use Rattle.enclosure_dual.specs.Value.{dual_of}
use Rattle.dual.specs.Dual.{add_d}
use Rattle.enclosure_dual.proofs.EnclosureDualAdd.add.Goals as goal

pub returns : goal.returns
unfolding add_d dual_of
returns c =
    rw (
      c.add-2.ensures,
      c.add.ensures,
    )
