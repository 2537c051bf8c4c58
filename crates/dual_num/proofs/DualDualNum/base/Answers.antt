-- `dual_num::DualDualNum::base` meets its contract. Assumes nothing.
use Rattle.dual_num.proofs.DualDualNum.base.Goals as goal

pub returns : goal.returns
returns c = record { power = λ w. c.dual_base.ensures.power; value = c.dual_base.ensures.value }
