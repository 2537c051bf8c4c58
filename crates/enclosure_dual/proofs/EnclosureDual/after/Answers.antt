-- `enclosure_dual::EnclosureDual::after` meets its contract. Assumes nothing.
use Rattle.enclosure_dual.specs.Value.{dual_of}
use Rattle.dual.specs.Dual.{after_d}
use Rattle.enclosure_dual.proofs.EnclosureDual.after.Goals as goal

pub returns : goal.returns
unfolding after_d dual_of
returns c =
    rw (
      c.after.ensures,
      c.after-worked.ensures,
    )
