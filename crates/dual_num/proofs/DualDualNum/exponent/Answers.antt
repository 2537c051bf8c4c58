-- `dual_num::DualDualNum::exponent` meets its contract. Assumes nothing.
use Rattle.dual_num.proofs.DualDualNum.exponent.Goals as goal

pub returns : goal.returns
returns c = record { power = λ w. c.dual_exponent.ensures.power; value = λ w. c.dual_exponent.ensures.value }
