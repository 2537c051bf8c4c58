-- `saftvrmie_dispersion::sutherland::lambda_of` meets its contract. Assumes nothing.
use lib.Ieee.{of_bits, neg}
use Rattle.number.specs.Arith.{decimal}
use Rattle.saftvrmie_dispersion.specs.Shared.{lambda_of}
use Rattle.saftvrmie_dispersion.proofs.sutherland.lambda_of.Goals as goal

pub returns : goal.returns
unfolding lambda_of decimal of_bits neg
returns g c w =
    let m = g.met.D.DualNum in
    rw (
      c.c_row-4.ensures w,
      c.c_row-3.ensures w,
      c.c_row-2.ensures w,
      c.c_row.ensures w,
      m.plain_sub_law w _ _ _ c.sub-2.ensures,
      m.plain_lit_law w _ _ c.lit-3.ensures,
      m.plain_sub_law w _ _ _ c.sub.ensures,
      m.plain_lit_law w _ _ c.lit-2.ensures,
      m.plain_mul_law w _ _ _ c.mul-li3.ensures,
      m.plain_mul_law w _ _ _ c.mul-li2.ensures,
      m.plain_div_law w _ _ _ c.div-li.ensures,
      m.plain_lit_law w _ _ c.lit.ensures,
    )
