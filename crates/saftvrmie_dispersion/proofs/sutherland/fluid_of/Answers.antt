-- `saftvrmie_dispersion::sutherland::fluid_of` meets its contract. Assumes nothing.
use lib.Ieee.{of_bits, neg}
use Rattle.number.specs.Arith.{decimal}
use Rattle.saftvrmie_dispersion.specs.Sutherland.{fluid_of}
use Rattle.saftvrmie_dispersion.proofs.sutherland.fluid_of.Goals as goal

pub returns : goal.returns
unfolding fluid_of decimal of_bits neg
returns g c w =
    let m = g.met.D.DualNum in
    rw (
      c.powi_down.ensures w,
      m.add_plain_law w _ _ _ c.add-3.ensures,
      m.neg_law w _ _ c.neg-2.ensures,
      m.mul_plain_law w _ _ _ c.mul-3.ensures,
      m.plain_lit_law w _ _ c.lit-2.ensures,
      m.mul_law w _ _ _ c.mul-2.ensures,
      m.add_plain_law w _ _ _ c.add-2.ensures,
      m.add_plain_law w _ _ _ c.add.ensures,
      m.mul_plain_law w _ _ _ c.mul.ensures,
      m.plain_lit_law w _ _ c.lit.ensures,
      m.neg_law w _ _ c.neg.ensures,
      m.plain_lit_law w _ _ c.lit-one.ensures,
    )
