-- `number::arithmetic::F64Arithmetic::cube` meets its contract. Assumes nothing.
use mathlib.Core.Path.{refl}
use lib.Ieee.{of_bits}
use Rattle.number.specs.Power.{pow_up, pow_digits, digits}
use Rattle.number.proofs.arithmetic.F64Arithmetic.cube.Goals as goal

pub returns : goal.returns
unfolding pow_up pow_digits digits of_bits
returns c = refl
