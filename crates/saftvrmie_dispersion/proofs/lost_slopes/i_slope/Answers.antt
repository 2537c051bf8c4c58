-- `saftvrmie_dispersion::lost_slopes::i_slope` meets its contract. Assumes nothing.
use lib.Ieee.{nan_bits, of_bits}
use Prim.{tt}
use Rattle.saftvrmie_dispersion.proofs.Slope.{i_slope_is}
use Rattle.saftvrmie_dispersion.proofs.lost_slopes.i_slope.Goals as goal

pub float_from_bits-result : goal.float_from_bits-result
unfolding nan_bits
float_from_bits-result c = tt

pub float_from_bits-result-2 : goal.float_from_bits-result-2
unfolding nan_bits
float_from_bits-result-2 c = tt

pub returns : goal.returns
unfolding of_bits
returns c = i_slope_is
