-- `dual_num::DualDualNum::exp` meets its contract. Assumes nothing.
use Rattle.dual_num.proofs.Powers.{sloped_is}
use Rattle.dual_num.proofs.DualDualNum.exp.Goals as goal

pub returns : goal.returns
returns c w = sloped_is _ _ c.exp.ensures
