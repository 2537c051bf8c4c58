-- `slope_num::EnclosureDualSlopeNum::re` meets its contract. Assumes nothing.
use mathlib.Core.Path.{refl}
use Rattle.enclosure_dual.specs.Value.{dual_of}
use Rattle.slope_num.proofs.EnclosureDualSlopeNum.re.Goals as goal

pub returns : goal.returns
unfolding dual_of
returns c = refl
