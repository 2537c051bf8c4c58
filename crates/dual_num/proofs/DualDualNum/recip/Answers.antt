-- `dual_num::DualDualNum::recip` meets its contract. Assumes nothing.
use Rattle.dual_num.proofs.DualDualNum.recip.Goals as goal

pub returns : goal.returns
returns c w = rw c.recip.ensures
