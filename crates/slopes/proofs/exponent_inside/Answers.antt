-- `slopes::exponent_inside` meets its contract. Assumes nothing.
use Rattle.slopes.specs.Staged.{slope_inside}
use lib.Ieee.{of_bits}
use Rattle.number.specs.Arith.{decimal}
use Rattle.slopes.proofs.exponent_inside.Goals as goal

pub returns : goal.returns
unfolding slope_inside decimal of_bits
returns c = rw (c.exponent_inside-2.ensures, c.exponent_inside.ensures)
