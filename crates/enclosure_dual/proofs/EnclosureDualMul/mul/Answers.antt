-- `enclosure_dual::EnclosureDualMul::mul` meets its contract. Assumes nothing.
use Rattle.enclosure_dual.specs.Value.{dual_of}
use Rattle.dual.specs.Dual.{mul_d}
use Rattle.enclosure_dual.proofs.EnclosureDualMul.mul.Goals as goal

pub returns : goal.returns
unfolding mul_d dual_of
returns c =
    rw (
      c.add.ensures,
      c.mul.ensures,
      c.mul-right.ensures,
      c.mul-left.ensures,
    )
