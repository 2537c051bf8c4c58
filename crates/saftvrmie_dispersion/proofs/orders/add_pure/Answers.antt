-- `saftvrmie_dispersion::orders::add_pure` meets its contract. Assumes nothing.
use lib.Ieee.{of_bits, neg}
use Rattle.number.specs.Arith.{decimal}
use Rattle.saftvrmie_dispersion.specs.Terms.{add_pure}
use Rattle.saftvrmie_dispersion.proofs.orders.add_pure.Goals as goal

pub returns : goal.returns
unfolding add_pure decimal of_bits neg
returns g c w =
    let m = g.met.D.DualNum in
    rw (
      m.add_law w _ _ _ c.add-4.ensures,
      m.mul_law w _ _ _ c.mul-4.ensures,
      m.add_law w _ _ _ c.add-3.ensures,
      m.mul_law w _ _ _ c.mul-3.ensures,
      m.add_plain_law w _ _ _ c.add-2.ensures,
      m.mul_law w _ _ _ c.mul-2.ensures,
      m.add_law w _ _ _ c.add.ensures,
      m.mul_law w _ _ _ c.mul.ensures,
      m.mul_law w _ _ _ c.mul-xs_ii2.ensures,
      m.plain_lit_law w _ _ c.lit-one.ensures,
    )
