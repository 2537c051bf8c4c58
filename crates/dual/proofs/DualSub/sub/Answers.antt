-- `dual::DualSub::sub` meets its contract. Assumes nothing.
use Rattle.dual.specs.Value.{dual_of}
use Rattle.dual.specs.Dual.{sub_d}
use mathlib.Core.Path.{refl}
use Rattle.dual.proofs.DualSub.sub.Goals as goal

pub returns : goal.returns
unfolding sub_d dual_of
returns c =
    refl
