-- `dual_num::DualDualNum::plain_powf` meets its contract. Assumes nothing.
use Rattle.dual_num.proofs.Powers.{plain_is}
use Rattle.dual_num.proofs.DualDualNum.plain_powf.Goals as goal

pub returns : goal.returns
returns c w = plain_is _ _ _ (c.plain_powf.ensures w)
