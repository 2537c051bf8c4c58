-- `saftvrmie_dispersion::lost_slopes::tiny` meets its contract. Assumes nothing.
use lib.Ieee.{nan_bits}
use Prim.{tt}
use Rattle.saftvrmie_dispersion.proofs.Lost.{tiny_by}
use Rattle.saftvrmie_dispersion.proofs.lost_slopes.tiny.Goals as goal

pub float_from_bits-result : goal.float_from_bits-result
unfolding nan_bits
float_from_bits-result c = tt

pub float_from_bits-result-2 : goal.float_from_bits-result-2
unfolding nan_bits
float_from_bits-result-2 c = tt

pub returns : goal.returns
returns c = tiny_by _ c.well_formed.0.1
