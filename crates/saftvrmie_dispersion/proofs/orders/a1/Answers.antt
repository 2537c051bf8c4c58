-- `saftvrmie_dispersion::orders::a1` meets its contract. Assumes nothing.
use lib.Ieee.{of_bits, neg}
use Rattle.number.specs.Arith.{decimal}
use Rattle.saftvrmie_dispersion.specs.Terms.{a1_of}
use Rattle.saftvrmie_dispersion.proofs.orders.a1.Goals as goal

pub returns : goal.returns
unfolding a1_of decimal of_bits neg
returns g c w =
    let m = g.met.D.DualNum in
    rw (
      m.mul_law w _ _ _ c.mul.ensures,
      m.sub_law w _ _ _ c.sub.ensures,
    )
