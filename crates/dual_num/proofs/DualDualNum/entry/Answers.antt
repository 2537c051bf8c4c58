-- `dual_num::DualDualNum::entry` meets its contract. Assumes nothing.
use mathlib.Core.Path.{refl}
use Rattle.dual.specs.Value.{dual_of}
use Rattle.dual_num.proofs.DualDualNum.entry.Goals as goal

pub returns : goal.returns
unfolding dual_of
returns c w = refl
