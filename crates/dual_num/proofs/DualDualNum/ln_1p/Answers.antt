-- `dual_num::DualDualNum::ln_1p` meets its contract. Assumes nothing.
use Rattle.dual_num.proofs.Powers.{sloped_is}
use Rattle.dual_num.proofs.DualDualNum.ln_1p.Goals as goal

pub returns : goal.returns
returns c w = sloped_is _ _ c.ln_1p.ensures
