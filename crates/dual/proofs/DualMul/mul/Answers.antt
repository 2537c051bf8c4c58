-- `dual::DualMul::mul` meets its contract. Assumes nothing.
use Rattle.dual.specs.Value.{dual_of}
use Rattle.dual.specs.Dual.{mul_d}
use mathlib.Core.Path.{refl}
use Rattle.dual.proofs.DualMul.mul.Goals as goal

pub returns : goal.returns
unfolding mul_d dual_of
returns c =
    refl
