-- `saftvrmie_dispersion::slope_sums::a1s_ij_dual` meets its contract. Assumes nothing.
use lib.Ieee.{of_bits}
use Rattle.number.specs.Arith.{decimal}
use Rattle.saftvrmie_dispersion.specs.Shared.{a1s_by}
use Rattle.saftvrmie_dispersion.proofs.slope_sums.a1s_ij_dual.Goals as goal

pub returns : goal.returns
unfolding a1s_by decimal of_bits
returns g c w =
    let m = g.met.S.SlopeNum in
    rw (
      m.div_law w _ _ _ c.div.ensures,
      m.mul_plain_law w _ _ _ c.mul-2.ensures,
      c.cube.ensures w,
      m.add_plain_law w _ _ _ c.add-2.ensures,
      m.neg_law w _ _ c.neg.ensures,
      m.add_plain_law w _ _ _ c.add.ensures,
      m.mul_plain_law w _ _ _ c.mul.ensures,
      c.entered.ensures w,
      m.neg_law w _ _ c.neg-minus.ensures,
      c.zeta_eff_dual.ensures w,
      c.entered-one.ensures w,
    )
