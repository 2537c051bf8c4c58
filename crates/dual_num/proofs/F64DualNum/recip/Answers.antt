-- `dual_num::F64DualNum::recip` meets its contract. Assumes nothing.
use lib.Ieee.{of_bits}
use mathlib.Core.Path.{refl}
use Rattle.number.specs.Arith.{decimal}
use Rattle.dual_num.proofs.F64DualNum.recip.Goals as goal

pub returns : goal.returns
unfolding decimal of_bits
returns c w = refl
