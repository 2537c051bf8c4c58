-- `dual_num::DualDualNum::re` meets its contract. Assumes nothing.
use mathlib.Core.Path.{refl}
use Rattle.dual.specs.Value.{dual_of}
use Rattle.dual_num.proofs.DualDualNum.re.Goals as goal

pub returns : goal.returns
unfolding dual_of
returns c w = refl
