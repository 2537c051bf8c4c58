-- '`exp_m1` and `tanh` of ±0 give the argument'. Assumes nothing.
use mathlib.Core.Path.{◌≡◌, refl}
use mathlib.Core.Bool.{Bool, true, false}
use lib.IntN.{pos}
use lib.Ieee.{fin, to_bits, of_bits, of_fields, odd, le, lt, eq, neg, size, span, climb}
use Rattle.number.specs.Ans.{held}
use Rattle.number.specs.Domain.{exp_inside, tanh_inside}
use Rattle.exponential.specs.ExpM1.{exp_m1_of}
use Rattle.exponential.specs.Tanh.{tanh_of}

pub exp_m1_zero : (s : Bool) → exp_m1_of (fin s 0 (pos 0)) ≡ held (fin s 0 (pos 0))
unfolding exp_m1_of exp_inside to_bits of_bits of_fields odd le lt eq neg size span climb
exp_m1_zero false = refl
exp_m1_zero true = refl

pub tanh_zero : (s : Bool) → tanh_of (fin s 0 (pos 0)) ≡ held (fin s 0 (pos 0))
unfolding tanh_of tanh_inside to_bits of_bits of_fields odd le lt eq neg size span climb
tanh_zero false = refl
tanh_zero true = refl
