-- `dual_num::EnclosureDualNum::exponent` meets its contract. Assumes nothing.
use Rattle.dual_num.proofs.Powers.{enclosure_by}
use Rattle.dual_num.proofs.EnclosureDualNum.exponent.Goals as goal

pub returns : goal.returns
returns c = record { power = λ w b. rw c.enclosure_exponent.ensures (enclosure_by b _); value = λ w. c.enclosure_exponent.ensures }
