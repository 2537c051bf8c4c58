-- `slope_num::EnclosureDualSlopeNum::powers` meets its contract. Assumes nothing.
use lib.Ieee.{of_bits, of_int}
use Rattle.number.specs.Arith.{decimal}
use Rattle.dual.specs.Dual.{pow_d}
use Rattle.enclosure_dual.specs.Value.{dual_of}
use Rattle.slope_num.specs.Value.{slope_by}
use Rattle.slope_num.proofs.WholePowers.{square_is, cube_is, itself_is, fourth_is}
use Rattle.slope_num.proofs.EnclosureDualSlopeNum.powers.Goals as goal

pub returns : goal.returns
unfolding slope_by pow_d dual_of decimal of_bits of_int
returns c =
    record {
      second = λ w. rw (square_is, itself_is, c.mul-2.ensures, c.mul-a.ensures, c.point.ensures, c.mul-square.ensures, c.mul-times.ensures, c.mul-itself.ensures, c.point-one.ensures);
      third = λ w. rw (cube_is, square_is, c.mul-3.ensures, c.mul-b.ensures, c.point-2.ensures, c.mul-cube.ensures, c.mul-square.ensures, c.mul-times.ensures, c.mul-itself.ensures, c.point-one.ensures);
      fourth = λ w. rw (fourth_is, cube_is, c.mul-4.ensures, c.mul-c.ensures, c.point-3.ensures, c.mul-fourth.ensures, c.mul.ensures, c.mul-cube.ensures, c.mul-times.ensures, c.mul-itself.ensures, c.point-one.ensures);
    }
