-- `enclosure_dual::EnclosureDualDiv::div` meets its contract. Assumes nothing.
use Rattle.enclosure_dual.specs.Value.{dual_of}
use Rattle.dual.specs.Dual.{div_d}
use Rattle.enclosure_dual.proofs.EnclosureDualDiv.div.Goals as goal

pub returns : goal.returns
unfolding div_d dual_of
returns c =
    rw (
      c.div-2.ensures,
      c.sub.ensures,
      c.div.ensures,
      c.mul-square.ensures,
      c.mul-right.ensures,
      c.mul-left.ensures,
    )
