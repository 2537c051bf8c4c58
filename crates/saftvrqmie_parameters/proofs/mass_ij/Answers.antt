-- `saftvrqmie_parameters::mass_ij` meets its contract. Assumes nothing.
use Rattle.saftvrqmie_parameters.specs.Combine.{mass_ij}
use lib.Ieee.{of_bits}
use Rattle.number.specs.Arith.{decimal}
use mathlib.Core.Path.{refl}
use Rattle.saftvrqmie_parameters.proofs.mass_ij.Goals as goal

pub returns : goal.returns
unfolding mass_ij decimal of_bits
returns c = refl
