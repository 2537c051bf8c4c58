-- `slope_num::EnclosureDualSlopeNum::fourth` meets its contract. Assumes nothing.
use lib.Ieee.{of_bits, of_int}
use Rattle.number.specs.Arith.{decimal}
use Rattle.dual.specs.Dual.{pow_d}
use Rattle.enclosure_dual.specs.Value.{dual_of}
use Rattle.slope_num.specs.Value.{slope_by}
use Rattle.slope_num.proofs.WholePowers.{cube_is, fourth_is}
use Rattle.slope_num.proofs.EnclosureDualSlopeNum.fourth.Goals as goal

pub returns : goal.returns
unfolding slope_by pow_d dual_of decimal of_bits of_int
returns c w =
    rw (fourth_is, cube_is, c.mul-4.ensures, c.mul-3.ensures, c.mul-2.ensures, c.mul-factor.ensures, c.point.ensures, c.mul-cube.ensures, c.mul.ensures, c.mul-square.ensures, c.point-one.ensures)
