-- `saftvrmie_dispersion::slope_sums::k_hs_dual` meets its contract. Assumes nothing.
use lib.Ieee.{of_bits}
use Rattle.number.specs.Arith.{decimal}
use Rattle.saftvrmie_dispersion.specs.Sutherland.{k_hs}
use Rattle.saftvrmie_dispersion.proofs.slope_sums.k_hs_dual.Goals as goal

pub returns : goal.returns
unfolding k_hs decimal of_bits
returns g c w =
    let m = g.met.S.SlopeNum in
    rw (
      m.div_law w _ _ _ c.div.ensures,
      m.add_plain_law w _ _ _ c.add-3.ensures,
      m.add_law w _ _ _ c.add-2.ensures,
      c.powers-p.ensures.fourth w,
      m.mul_plain_law w _ _ _ c.mul.ensures,
      c.entered.ensures w,
      m.sub_law w _ _ _ c.sub-2.ensures,
      c.powers-p.ensures.third w,
      m.add_law w _ _ _ c.add.ensures,
      c.powers-p.ensures.second w,
      c.fourth.ensures w,
      m.sub_plain_law w _ _ _ c.sub.ensures,
      c.entered-one.ensures w,
    )
