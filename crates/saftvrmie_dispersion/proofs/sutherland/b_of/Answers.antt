-- `saftvrmie_dispersion::sutherland::b_of` meets its contract. Assumes nothing.
use lib.Ieee.{of_bits, neg}
use Rattle.number.specs.Arith.{decimal}
use Rattle.saftvrmie_dispersion.specs.Sutherland.{b_of}
use Rattle.saftvrmie_dispersion.proofs.sutherland.b_of.Goals as goal

pub returns : goal.returns
unfolding b_of decimal of_bits neg
returns g c w =
    let m = g.met.D.DualNum in
    rw (
      m.mul_law w _ _ _ c.mul-3.ensures,
      m.sub_law w _ _ _ c.sub.ensures,
      m.mul_law w _ _ _ c.mul-2.ensures,
      m.mul_law w _ _ _ c.mul.ensures,
    )
