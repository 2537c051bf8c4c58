-- `exponential::exp_inside` meets its contract. Assumes nothing.
use lib.Ieee.{of_bits}
use Rattle.number.specs.Domain.{exp_inside}
use Rattle.exponential.proofs.exp_inside.Goals as goal

pub returns : goal.returns
unfolding exp_inside of_bits
returns c = c.within.ensures
