-- `saftvrmie_dispersion::orders::bar_of` meets its contract. Assumes nothing.
use lib.Ieee.{of_bits, neg}
use Rattle.number.specs.Arith.{decimal}
use Rattle.saftvrmie_dispersion.specs.Terms.{bar_of}
use Rattle.saftvrmie_dispersion.proofs.orders.bar_of.Goals as goal

pub returns : goal.returns
unfolding bar_of decimal of_bits neg
returns g c w =
    rw (
      c.powi-2.ensures w,
      c.powi.ensures w,
    )
