-- `dual::Dual::cube` meets its contract. Assumes nothing.
use mathlib.Core.Path.{refl}
use lib.Ieee.{of_bits, of_int}
use Rattle.number.specs.Arith.{decimal}
use Rattle.dual.specs.Dual.{pow_d}
use Rattle.dual.specs.Value.{dual_of}
use Rattle.number.specs.Power.{pow_up, pow_digits, digits}
use Rattle.dual.proofs.Dual.cube.Goals as goal

pub returns : goal.returns
unfolding pow_d pow_up pow_digits digits dual_of decimal of_bits of_int
returns c = refl
