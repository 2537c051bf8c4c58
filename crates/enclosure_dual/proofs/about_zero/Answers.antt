-- `enclosure_dual::about_zero` meets its contract. Assumes nothing.
use lib.Ieee.{nan_bits}
use Prim.{tt}
use mathlib.Core.Path.{refl}
use Rattle.enclosure_dual.specs.Value.{about_zero}
use Rattle.enclosure_dual.proofs.about_zero.Goals as goal

pub float_from_bits-result : goal.float_from_bits-result
unfolding nan_bits
float_from_bits-result c = tt

pub float_from_bits-result-2 : goal.float_from_bits-result-2
unfolding nan_bits
float_from_bits-result-2 c = tt

pub returns : goal.returns
unfolding about_zero
returns c = refl
