-- `dual::DualNeg::neg` meets its contract. Assumes nothing.
use Rattle.dual.specs.Value.{dual_of}
use Rattle.dual.specs.Dual.{neg_d}
use mathlib.Core.Path.{refl}
use Rattle.dual.proofs.DualNeg.neg.Goals as goal

pub returns : goal.returns
unfolding neg_d dual_of
returns c =
    refl
