-- `exponential::tanh_inside` meets its contract. Assumes nothing.
use lib.Ieee.{of_bits}
use Rattle.number.specs.Domain.{tanh_inside}
use Rattle.exponential.proofs.tanh_inside.Goals as goal

pub returns : goal.returns
unfolding tanh_inside of_bits
returns c = c.within.ensures
