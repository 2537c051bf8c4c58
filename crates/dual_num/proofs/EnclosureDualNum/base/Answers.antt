-- `dual_num::EnclosureDualNum::base` meets its contract. Assumes nothing.
use Rattle.dual_num.proofs.EnclosureDualNum.base.Goals as goal

pub returns : goal.returns
returns c = record { power = λ w. c.enclosure_base.ensures.power; value = c.enclosure_base.ensures.value }
