-- `dual_num::DualDualNum::plain_ln` meets its contract. Assumes nothing.
use Rattle.dual_num.proofs.Powers.{plain_by}
use Rattle.dual_num.proofs.DualDualNum.plain_ln.Goals as goal

pub returns : goal.returns
returns c w = plain_by _ _ c.ln.ensures
