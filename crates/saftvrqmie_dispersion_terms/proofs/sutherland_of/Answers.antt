-- `saftvrqmie_dispersion_terms::sutherland_of` meets its contract. Assumes nothing.
use lib.Ieee.{of_bits, neg}
use Rattle.number.specs.Arith.{decimal}
use Rattle.saftvrqmie_dispersion_terms.proofs.sutherland_of.Goals as goal

pub returns : goal.returns
unfolding decimal of_bits neg
returns g c w =
    let m = g.met.D.DualNum in
    rw (
      m.div_law w _ _ _ c.div-2.ensures,
      m.div_plain_law w _ _ _ c.div.ensures,
      m.mul_plain_law w _ _ _ c.mul-4.ensures,
      m.mul_law w _ _ _ c.mul-3.ensures,
      m.mul_plain_law w _ _ _ c.mul-2.ensures,
      m.plain_lit_law w _ _ c.lit.ensures,
      m.add_plain_law w _ _ _ c.add-2.ensures,
      m.mul_plain_law w _ _ _ c.mul.ensures,
      m.neg_law w _ _ c.neg-2.ensures,
      c.cube-d.ensures w,
      m.add_plain_law w _ _ _ c.add.ensures,
      m.neg_law w _ _ c.neg.ensures,
      m.plain_lit_law w _ _ c.lit-half.ensures,
      m.plain_lit_law w _ _ c.lit-one.ensures,
    )
