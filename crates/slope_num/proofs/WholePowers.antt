-- The whole powers 1 to 4 as their products. Assumes nothing.
use mathlib.Core.Path.{◌≡◌, refl}
use mathlib.Core.Bool.{false}
use lib.Ieee.{of_bits}
use Rattle.number.specs.Arith.{decimal}
use Rattle.number.specs.Power.{digits, pow_digits, pow_up}
use Rattle.interval.specs.Interval.{pow_i}
use Rattle.enclosure.specs.declared.Enclosure.{Enclosure}
use Rattle.enclosure.specs.Enclosure.{point, mul_e, pow_e}

pub itself_is : (x : Enclosure) → pow_e x 1 ≡ mul_e (point (decimal false 1 0)) x
unfolding pow_e pow_i pow_up digits pow_digits mul_e point decimal of_bits
itself_is x = refl

pub square_is : (x : Enclosure) → pow_e x 2 ≡ mul_e (point (decimal false 1 0)) (mul_e x x)
unfolding pow_e pow_i pow_up digits pow_digits mul_e point decimal of_bits
square_is x = refl

pub cube_is : (x : Enclosure) → pow_e x 3 ≡ mul_e (mul_e (point (decimal false 1 0)) x) (mul_e x x)
unfolding pow_e pow_i pow_up digits pow_digits mul_e point decimal of_bits
cube_is x = refl

pub fourth_is : (x : Enclosure) → pow_e x 4 ≡ mul_e (point (decimal false 1 0)) (mul_e (mul_e x x) (mul_e x x))
unfolding pow_e pow_i pow_up digits pow_digits mul_e point decimal of_bits
fourth_is x = refl
