-- `slope_num::DualSlopeNum::fourth` meets its contract. Assumes nothing.
use mathlib.Core.Path.{refl}
use lib.Ieee.{of_bits, of_int}
use Rattle.number.specs.Arith.{decimal}
use Rattle.dual.specs.Dual.{pow_d}
use Rattle.dual.specs.Value.{dual_of}
use Rattle.number.specs.Power.{pow_up, pow_digits, digits}
use Rattle.slope_num.specs.Value.{slope_by}
use Rattle.slope_num.proofs.DualSlopeNum.fourth.Goals as goal

pub returns : goal.returns
unfolding slope_by pow_d pow_up pow_digits digits dual_of decimal of_bits of_int
returns c w = refl
