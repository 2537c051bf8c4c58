-- `dual_num::EnclosureDualNum::square` meets its contract. Assumes nothing.
use lib.Ieee.{of_bits}
use Rattle.number.specs.Arith.{decimal}
use Rattle.number.specs.Power.{pow_up, pow_digits, digits}
use Rattle.interval.specs.Interval.{pow_i}
use Rattle.enclosure.specs.Enclosure.{pow_e, mul_e, point}
use Rattle.dual_num.proofs.EnclosureDualNum.square.Goals as goal

pub returns : goal.returns
unfolding pow_e pow_i pow_up digits pow_digits mul_e point decimal of_bits
returns c w = rw (c.mul-2.ensures, c.mul.ensures, c.point.ensures)
