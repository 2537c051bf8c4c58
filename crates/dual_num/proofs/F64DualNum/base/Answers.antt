-- `dual_num::F64DualNum::base` meets its contract. Assumes nothing.
use Rattle.dual_num.proofs.F64DualNum.base.Goals as goal

pub returns : goal.returns
returns c = record { power = λ w. c.float_base.ensures.power; value = c.float_base.ensures.value }
