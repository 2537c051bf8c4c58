-- `saftvrmie_dispersion::sutherland::k_hs` meets its contract. Assumes nothing.
use lib.Ieee.{of_bits, neg}
use Rattle.number.specs.Arith.{decimal}
use Rattle.saftvrmie_dispersion.specs.Sutherland.{k_hs}
use Rattle.saftvrmie_dispersion.proofs.sutherland.k_hs.Goals as goal

pub returns : goal.returns
unfolding k_hs decimal of_bits neg
returns g c w =
    let m = g.met.D.DualNum in
    rw (
      m.div_law w _ _ _ c.div.ensures,
      m.add_plain_law w _ _ _ c.add-3.ensures,
      m.add_law w _ _ _ c.add-2.ensures,
      c.powi-2.ensures w,
      m.mul_plain_law w _ _ _ c.mul.ensures,
      m.sub_law w _ _ _ c.sub-2.ensures,
      c.cube.ensures w,
      m.add_law w _ _ _ c.add.ensures,
      c.square.ensures w,
      c.powi.ensures w,
      m.sub_plain_law w _ _ _ c.sub.ensures,
      m.plain_lit_law w _ _ c.lit-four.ensures,
      m.plain_lit_law w _ _ c.lit-one.ensures,
    )
