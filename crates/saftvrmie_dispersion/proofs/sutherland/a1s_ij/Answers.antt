-- `saftvrmie_dispersion::sutherland::a1s_ij` meets its contract. Assumes nothing.
use lib.Ieee.{of_bits, neg}
use Rattle.number.specs.Arith.{decimal}
use Rattle.saftvrmie_dispersion.specs.Shared.{a1s_by}
use Rattle.saftvrmie_dispersion.proofs.sutherland.a1s_ij.Goals as goal

pub returns : goal.returns
unfolding a1s_by decimal of_bits neg
returns g c w =
    let m = g.met.D.DualNum in
    rw (
      m.div_law w _ _ _ c.div.ensures,
      m.mul_plain_law w _ _ _ c.mul-2.ensures,
      c.cube.ensures w,
      m.add_plain_law w _ _ _ c.add-2.ensures,
      m.neg_law w _ _ c.neg-3.ensures,
      m.neg_law w _ _ c.neg-2.ensures,
      m.add_plain_law w _ _ _ c.add.ensures,
      m.mul_plain_law w _ _ _ c.mul.ensures,
      m.neg_law w _ _ c.neg.ensures,
      c.zeta_eff-ze.ensures w,
      m.plain_lit_law w _ _ c.lit-half.ensures,
      m.plain_lit_law w _ _ c.lit-one.ensures,
    )
