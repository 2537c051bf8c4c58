-- `dual::DualDiv::div` meets its contract. Assumes nothing.
use Rattle.dual.specs.Value.{dual_of}
use Rattle.dual.specs.Dual.{div_d}
use mathlib.Core.Path.{refl}
use Rattle.dual.proofs.DualDiv.div.Goals as goal

pub returns : goal.returns
unfolding div_d dual_of
returns c =
    refl
