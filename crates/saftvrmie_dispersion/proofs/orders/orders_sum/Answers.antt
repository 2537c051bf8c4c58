-- `saftvrmie_dispersion::orders::orders_sum` meets its contract. Assumes nothing.
use lib.Ieee.{of_bits, neg}
use Rattle.number.specs.Arith.{decimal}
use Rattle.mie_parameters.specs.Sums.{orders_sum}
use Rattle.saftvrmie_dispersion.proofs.orders.orders_sum.Goals as goal

pub returns : goal.returns
unfolding orders_sum decimal of_bits neg
returns g c w =
    let m = g.met.D.DualNum in
    rw (
      m.add_law w _ _ _ c.add-2.ensures,
      m.mul_law w _ _ _ c.mul-3.ensures,
      c.cube.ensures w,
      m.add_law w _ _ _ c.add.ensures,
      m.mul_law w _ _ _ c.mul-2.ensures,
      c.square.ensures w,
      m.mul_law w _ _ _ c.mul.ensures,
    )
