-- `saftvrmie_dispersion::slope_sums::pref_dual` meets its contract. Assumes nothing.
use lib.Ieee.{of_bits}
use Rattle.number.specs.Arith.{decimal}
use Rattle.saftvrmie_dispersion.specs.Terms.{pref_of}
use Rattle.saftvrmie_dispersion.proofs.slope_sums.pref_dual.Goals as goal

pub returns : goal.returns
unfolding pref_of decimal of_bits
returns g c w =
    let m = g.met.S.SlopeNum in
    rw (
      m.mul_plain_law w _ _ _ c.mul-5.ensures,
      m.mul_plain_law w _ _ _ c.mul-4.ensures,
      c.lift.ensures w,
      g.met.S.Re.PlainNum.taken_law w,
      c.pi.ensures w,
      m.mul_plain_law w _ _ _ c.mul-3.ensures,
      c.entered.ensures w,
      m.mul_plain_law w _ _ _ c.mul-2.ensures,
      m.mul_plain_law w _ _ _ c.mul.ensures,
    )
