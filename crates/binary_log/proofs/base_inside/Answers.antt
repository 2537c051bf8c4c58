-- `binary_log::base_inside` meets its contract. Assumes nothing.
use lib.Ieee.{of_bits}
use Rattle.number.specs.Domain.{base_inside}
use Rattle.binary_log.proofs.base_inside.Goals as goal

pub returns : goal.returns
unfolding base_inside of_bits
returns c = c.within.ensures
