-- `saftvrmie_dispersion::orders::xi` meets its contract. Assumes nothing.
use lib.Ieee.{of_bits, neg}
use Rattle.number.specs.Arith.{decimal}
use Rattle.saftvrmie_dispersion.specs.Shared.{xi_by}
use Rattle.saftvrmie_dispersion.proofs.orders.xi.Goals as goal

pub returns : goal.returns
unfolding xi_by decimal of_bits neg
returns g c w =
    let m = g.met.D.DualNum in
    rw (
      m.add_law w _ _ _ c.add-2.ensures,
      m.mul_plain_law w _ _ _ c.mul-3.ensures,
      m.add_law w _ _ _ c.add.ensures,
      m.mul_plain_law w _ _ _ c.mul-2.ensures,
      m.mul_plain_law w _ _ _ c.mul.ensures,
    )
