-- `saftvrmie_dispersion::sutherland::c_row` meets its contract. Assumes nothing.
use lib.Ieee.{of_bits, neg}
use Rattle.number.specs.Arith.{decimal}
use Rattle.saftvrmie_dispersion.specs.Sutherland.{c_row}
use Rattle.saftvrmie_dispersion.proofs.sutherland.c_row.Goals as goal

pub returns : goal.returns
unfolding c_row decimal of_bits neg
returns g c w =
    let m = g.met.D.DualNum in
    rw (
      m.plain_add_law w _ _ _ c.add-3.ensures,
      m.plain_lit_law w _ _ c.lit-4.ensures,
      m.plain_add_law w _ _ _ c.add-2.ensures,
      m.plain_mul_law w _ _ _ c.mul-3.ensures,
      m.plain_lit_law w _ _ c.lit-3.ensures,
      m.plain_add_law w _ _ _ c.add.ensures,
      m.plain_mul_law w _ _ _ c.mul-2.ensures,
      m.plain_lit_law w _ _ c.lit-2.ensures,
      m.plain_mul_law w _ _ _ c.mul.ensures,
      m.plain_lit_law w _ _ c.lit.ensures,
    )
