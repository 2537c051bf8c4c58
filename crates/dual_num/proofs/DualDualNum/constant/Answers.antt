-- `dual_num::DualDualNum::constant` meets its contract. Assumes nothing.
use Rattle.dual_num.proofs.Constants.{plain_constant}
use Rattle.dual_num.proofs.DualDualNum.constant.Goals as goal

pub returns : goal.returns
returns c w k r = plain_constant k c.args.e r
