-- `saftvrmie_dispersion::orders::six_of` meets its contract. Assumes nothing.
use lib.Ieee.{of_bits, neg}
use Rattle.number.specs.Arith.{decimal}
use Rattle.saftvrmie_dispersion.specs.Terms.{f}
use Rattle.saftvrmie_dispersion.specs.Shared.{six_of}
use Rattle.saftvrmie_dispersion.proofs.orders.six_of.Goals as goal

pub returns : goal.returns
unfolding six_of f decimal of_bits neg
returns g c w =
    let m = g.met.D.DualNum in
    rw (
      c.f-6.ensures w,
      c.f-5.ensures w,
      c.f-4.ensures w,
      c.f-3.ensures w,
      c.f-2.ensures w,
      c.f.ensures w,
      m.plain_mul_law w _ _ _ c.mul-alpha3.ensures,
      m.plain_mul_law w _ _ _ c.mul-alpha2.ensures,
      m.plain_lit_law w _ _ c.lit-alpha.ensures,
    )
