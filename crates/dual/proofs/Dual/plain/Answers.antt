-- `dual::Dual::plain` meets its contract. Assumes nothing.
use Rattle.dual.specs.Value.{dual_of}
use Rattle.dual.specs.Dual.{plain_d}
use mathlib.Core.Path.{refl}
use Rattle.dual.proofs.Dual.plain.Goals as goal

pub returns : goal.returns
unfolding plain_d dual_of
returns c =
    refl
