-- A worked example of the outward rules, computed from the definitions.
use mathlib.Core.Path.{◌≡◌, refl}
use mathlib.Core.Bool.{true}
use lib.Ieee.{add, of_bits, to_bits, fits, lt}
use Rattle.number.specs.Arith.{bits, zero64, one64}
use Rattle.number.specs.Neighbour.{next_up, next_down, step_up, step_down, least, greatest}
use Rattle.interval.specs.Interval.{point, add_i, around, outward}

-- the ends of the sum of the points 1 and 0 are 1 − 2^−53 and 1 + 2^−52
pub sum_of_one_and_zero : add_i (point one64) (point zero64) ≡ record { lower = bits 0x3fef_ffff_ffff_ffff; upper = bits 0x3ff0_0000_0000_0001; sound = true }
unfolding add_i point around outward next_up next_down step_up step_down least greatest add of_bits to_bits fits lt
sum_of_one_and_zero = refl
