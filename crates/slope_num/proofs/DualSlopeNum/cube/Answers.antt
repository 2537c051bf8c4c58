-- `slope_num::DualSlopeNum::cube` meets its contract. Assumes nothing.
use Rattle.dual.specs.Value.{dual_of}
use Rattle.slope_num.specs.Value.{slope_by}
use Rattle.slope_num.proofs.DualSlopeNum.cube.Goals as goal

pub returns : goal.returns
unfolding slope_by dual_of
returns c w = c.cube.ensures
