-- `saftvrmie_dispersion::orders::x0_of` meets its contract. Assumes nothing.
use lib.Ieee.{of_bits, neg}
use Rattle.number.specs.Arith.{decimal}
use Rattle.saftvrmie_dispersion.specs.Terms.{x0_of}
use Rattle.saftvrmie_dispersion.proofs.orders.x0_of.Goals as goal

pub returns : goal.returns
unfolding x0_of decimal of_bits neg
returns g c w =
    let m = g.met.D.DualNum in
    rw (
      m.mul_plain_law w _ _ _ c.mul.ensures,
      c.recip.ensures w,
    )
