-- `slopes::exponent` meets its contract. Assumes nothing.
use Rattle.slopes.specs.Staged.{slope_exponent_of}
use lib.Ieee.{of_bits}
use Rattle.number.specs.Arith.{decimal}
use Rattle.slopes.proofs.exponent.Goals as goal

pub returns : goal.returns
unfolding slope_exponent_of decimal of_bits
returns c = rw (c.exponent-2.ensures, c.exponent.ensures)
