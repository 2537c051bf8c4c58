-- `slope_num::DualSlopeNum::re` meets its contract. Assumes nothing.
use mathlib.Core.Path.{refl}
use Rattle.dual.specs.Value.{dual_of}
use Rattle.slope_num.proofs.DualSlopeNum.re.Goals as goal

pub returns : goal.returns
unfolding dual_of
returns c = refl
