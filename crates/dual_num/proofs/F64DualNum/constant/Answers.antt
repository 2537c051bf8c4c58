-- `dual_num::F64DualNum::constant` meets its contract. Assumes nothing.
use Rattle.dual_num.proofs.Constants.{float_constant}
use Rattle.dual_num.proofs.F64DualNum.constant.Goals as goal

pub returns : goal.returns
returns c w k r = float_constant k c.args.e r
