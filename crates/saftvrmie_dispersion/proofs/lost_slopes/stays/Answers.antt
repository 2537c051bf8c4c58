-- `saftvrmie_dispersion::lost_slopes::stays` meets its contract. Assumes nothing.
use lib.Ieee.{nan_bits}
use Prim.{tt}
use Rattle.saftvrmie_dispersion.specs.Slope.{stays_of}
use mathlib.Core.Path.{refl}
use Rattle.saftvrmie_dispersion.proofs.lost_slopes.stays.Goals as goal

pub float_from_bits-faint : goal.float_from_bits-faint
unfolding nan_bits
float_from_bits-faint c = tt

pub returns : goal.returns
unfolding stays_of
returns c = refl
