-- `dual_num::EnclosureDualNum::recip` meets its contract. Assumes nothing.
use lib.Ieee.{of_bits}
use Rattle.number.specs.Arith.{decimal}
use Rattle.dual_num.proofs.EnclosureDualNum.recip.Goals as goal

pub returns : goal.returns
unfolding decimal of_bits
returns c w = rw (c.div.ensures, c.point.ensures)
