-- `saftvrmie_parameters::alpha_ij` meets its contract. Assumes nothing.
use Rattle.saftvrmie_parameters.specs.Combine.{alpha_ij}
use lib.Ieee.{of_bits}
use Rattle.number.specs.Arith.{decimal}
use mathlib.Core.Path.{refl}
use Rattle.saftvrmie_parameters.proofs.alpha_ij.Goals as goal

pub returns : goal.returns
unfolding alpha_ij decimal of_bits
returns c = refl
