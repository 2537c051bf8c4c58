-- Slip 3 of document 02 holds, whole. Assumes nothing.
use lib.Ieee.{Float}
use lib.Ieee.Fits.{and_i}
use Rattle.number.specs.Ans.{Ans}
use Rattle.number.specs.Domain.{base_inside, exponent_inside}
use Rattle.elementary.specs.Promised.{PowfAt}
use Rattle.elementary.proofs.Promised.{promised}
use Rattle.power_corners.specs.Corners.{PowerAt, Slip3}
use Rattle.power_corners.proofs.Numbers.{zero_leaves}
use Rattle.power_corners.proofs.Integral.{ilambda_zero, i_zero}
use Rattle.power_corners.proofs.Quantum.{quantum}
use Rattle.power_corners.proofs.Mie.{mie}

-- the power's part follows from what its contract at the boundary says of any call's answer
pub from_contract : (x y : Float) (a : Ans Float) → PowfAt x y a → PowerAt x y a
from_contract x y a p =
    record {
      exponent_zero = p.by_zero;
      base_one = p.of_one;
      exponent_one = p.by_one;
      otherwise = λ h k other. let r = p.keeps.inside (and_i (base_inside x) (exponent_inside y) h k) in (r.0, r.1, r.2, λ v w. p.else_50 other r.0 v r.1 w);
      value = λ h k. p.keeps.value (and_i (base_inside x) (exponent_inside y) h k);
    }

pub slip_3 : Slip3
slip_3 =
    record {
      power = λ x y f g. from_contract x y _ (promised.powf x y f g);
      quantum = quantum;
      mie = mie;
      zero_leaves = zero_leaves;
      ilambda_zero = ilambda_zero;
      i_zero = i_zero;
    }
