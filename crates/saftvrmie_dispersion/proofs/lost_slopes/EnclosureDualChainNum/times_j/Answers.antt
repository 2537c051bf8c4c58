-- `saftvrmie_dispersion::lost_slopes::EnclosureDualChainNum::times_j` meets its contract. Assumes nothing.
use Rattle.dual.specs.Dual.{div_d, neg_d, sub_d, mul_d, plain_d}
use Rattle.enclosure_dual.specs.Value.{dual_of}
use lib.Ieee.{of_bits}
use Rattle.number.specs.Arith.{decimal}
use Rattle.saftvrmie_dispersion.specs.Slope.{j_slope, quotient_slope}
use Rattle.saftvrmie_dispersion.specs.Shared.{j_by}
use Rattle.slope_num.specs.Value.{slope_by}
use Rattle.saftvrmie_dispersion.proofs.lost_slopes.EnclosureDualChainNum.times_j.Goals as goal

pub returns : goal.returns
unfolding slope_by j_by j_slope quotient_slope div_d neg_d sub_d mul_d plain_d dual_of decimal of_bits
returns c w = rw (c.times_quotient.ensures.0, c.times_quotient.ensures.1, c.j_slope.ensures, c.mul-3.ensures, c.sub-u.ensures, c.mul-2.ensures, c.mul.ensures)
