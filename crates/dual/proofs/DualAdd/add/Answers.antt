-- `dual::DualAdd::add` meets its contract. Assumes nothing.
use Rattle.dual.specs.Value.{dual_of}
use Rattle.dual.specs.Dual.{add_d}
use mathlib.Core.Path.{refl}
use Rattle.dual.proofs.DualAdd.add.Goals as goal

pub returns : goal.returns
unfolding add_d dual_of
returns c =
    refl
