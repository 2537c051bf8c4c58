-- `saftvrmie_dispersion::slope_sums::a2_dual` meets its contract. Assumes nothing.
use lib.Ieee.{of_bits}
use Rattle.number.specs.Arith.{decimal}
use Rattle.saftvrmie_dispersion.specs.Terms.{a2_of}
use Rattle.saftvrmie_dispersion.proofs.slope_sums.a2_dual.Goals as goal

pub returns : goal.returns
unfolding a2_of decimal of_bits
returns g c w =
    let m = g.met.S.SlopeNum in
    rw (
      m.mul_law w _ _ _ c.mul-6.ensures,
      m.add_law w _ _ _ c.add.ensures,
      m.sub_law w _ _ _ c.sub.ensures,
      m.mul_plain_law w _ _ _ c.mul-5.ensures,
      m.mul_plain_law w _ _ _ c.mul-4.ensures,
      m.mul_law w _ _ _ c.mul-3.ensures,
      m.mul_plain_law w _ _ _ c.mul-2.ensures,
      m.mul_plain_law w _ _ _ c.mul.ensures,
      c.entered-two.ensures w,
      c.entered-half.ensures w,
    )
