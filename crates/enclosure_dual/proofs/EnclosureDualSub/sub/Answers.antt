-- `enclosure_dual::EnclosureDualSub::sub` meets its contract. Assumes nothing.
use Rattle.enclosure_dual.specs.Value.{dual_of}
use Rattle.dual.specs.Dual.{sub_d}
use Rattle.enclosure_dual.proofs.EnclosureDualSub.sub.Goals as goal

pub returns : goal.returns
unfolding sub_d dual_of
returns c =
    rw (
      c.sub-2.ensures,
      c.sub.ensures,
    )
