-- `dual_num::F64DualNum::exponent` meets its contract. Assumes nothing.
use Rattle.dual_num.proofs.Powers.{float_by}
use Rattle.dual_num.proofs.F64DualNum.exponent.Goals as goal

pub returns : goal.returns
returns c = record { power = λ w b. rw c.float_exponent.ensures (float_by b _); value = λ w. c.float_exponent.ensures }
