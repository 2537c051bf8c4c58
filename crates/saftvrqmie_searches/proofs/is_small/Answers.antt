-- `saftvrqmie_searches::is_small` meets its contract. Assumes nothing.
use lib.Ieee.{of_bits}
use Rattle.number.specs.Arith.{decimal}
use Rattle.saftvrqmie_searches.proofs.is_small.Goals as goal

pub returns : goal.returns
unfolding decimal of_bits
returns g c w = rw (c.abs.ensures, c.re.ensures w)
