-- `saftvrmie_dispersion::orders::f` meets its contract. Assumes nothing.
use lib.Ieee.{of_bits, neg}
use Rattle.number.specs.Arith.{decimal}
use Rattle.mie_parameters.specs.Sums.{f_from}
use Rattle.saftvrmie_dispersion.proofs.orders.f.Goals as goal

pub returns : goal.returns
unfolding f_from decimal of_bits neg
returns g c w =
    let m = g.met.D.DualNum in
    rw (
      m.plain_div_law w _ _ _ c.div.ensures,
      m.plain_add_law w _ _ _ c.add-under.ensures,
      m.plain_lit_law w _ _ c.lit-8.ensures,
      m.plain_add_law w _ _ _ c.add-4.ensures,
      m.plain_mul_law w _ _ _ c.mul-6.ensures,
      m.plain_lit_law w _ _ c.lit-7.ensures,
      m.plain_add_law w _ _ _ c.add-3.ensures,
      m.plain_mul_law w _ _ _ c.mul-5.ensures,
      m.plain_lit_law w _ _ c.lit-6.ensures,
      m.plain_mul_law w _ _ _ c.mul-4.ensures,
      m.plain_lit_law w _ _ c.lit-5.ensures,
      m.plain_add_law w _ _ _ c.add-over.ensures,
      m.plain_lit_law w _ _ c.lit-4.ensures,
      m.plain_add_law w _ _ _ c.add-2.ensures,
      m.plain_mul_law w _ _ _ c.mul-3.ensures,
      m.plain_lit_law w _ _ c.lit-3.ensures,
      m.plain_add_law w _ _ _ c.add.ensures,
      m.plain_mul_law w _ _ _ c.mul-2.ensures,
      m.plain_lit_law w _ _ c.lit-2.ensures,
      m.plain_mul_law w _ _ _ c.mul.ensures,
      m.plain_lit_law w _ _ c.lit.ensures,
    )
