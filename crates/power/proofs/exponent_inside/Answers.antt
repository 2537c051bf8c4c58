-- `power::exponent_inside` meets its contract. Assumes nothing.
use lib.Ieee.{of_bits}
use Rattle.number.specs.Domain.{exponent_inside}
use Rattle.power.proofs.exponent_inside.Goals as goal

pub returns : goal.returns
unfolding exponent_inside of_bits
returns c = c.within.ensures
