-- `enclosure_dual::EnclosureDualMulEnclosure::mul` meets its contract. Assumes nothing.
use Rattle.dual.specs.Dual.{mul_d, plain_d}
use Rattle.enclosure_dual.specs.Value.{dual_of}
use Rattle.enclosure_dual.proofs.EnclosureDualMulEnclosure.mul.Goals as goal

pub returns : goal.returns
unfolding mul_d plain_d dual_of
returns c =
    rw (
      c.add.ensures,
      c.times_zero.ensures,
      c.mul.ensures,
      c.mul-left.ensures,
    )
