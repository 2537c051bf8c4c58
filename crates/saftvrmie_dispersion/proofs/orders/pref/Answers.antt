-- `saftvrmie_dispersion::orders::pref` meets its contract. Assumes nothing.
use lib.Ieee.{of_bits, neg}
use Rattle.number.specs.Arith.{decimal}
use Rattle.saftvrmie_dispersion.specs.Terms.{pref_of}
use Rattle.saftvrmie_dispersion.proofs.orders.pref.Goals as goal

pub returns : goal.returns
unfolding pref_of decimal of_bits neg
returns g c w =
    let m = g.met.D.DualNum in
    rw (
      m.mul_plain_law w _ _ _ c.mul-5.ensures,
      m.mul_plain_law w _ _ _ c.mul-4.ensures,
      c.pi.ensures w,
      m.mul_plain_law w _ _ _ c.mul-3.ensures,
      m.plain_lit_law w _ _ c.lit.ensures,
      m.mul_plain_law w _ _ _ c.mul-2.ensures,
      m.mul_law w _ _ _ c.mul.ensures,
    )
