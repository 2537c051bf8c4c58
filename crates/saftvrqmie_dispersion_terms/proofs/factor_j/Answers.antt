-- `saftvrqmie_dispersion_terms::factor_j` meets its contract. Assumes nothing.
use lib.Ieee.{of_bits, neg}
use Rattle.number.specs.Arith.{decimal}
use Rattle.saftvrqmie_dispersion_terms.specs.Terms.{factor_j}
use Rattle.saftvrqmie_dispersion_terms.proofs.factor_j.Goals as goal

pub returns : goal.returns
unfolding factor_j decimal of_bits neg
returns g c w =
    let m = g.met.D.DualNum in
    rw (
      m.div_law w _ _ _ c.div.ensures,
      c.cube.ensures w,
      m.add_plain_law w _ _ _ c.add-2.ensures,
      m.neg_law w _ _ c.neg-2.ensures,
      m.mul_law w _ _ _ c.mul-2.ensures,
      m.add_plain_law w _ _ _ c.add.ensures,
      m.mul_plain_law w _ _ _ c.mul.ensures,
      m.plain_lit_law w _ _ c.lit.ensures,
      m.neg_law w _ _ c.neg.ensures,
      m.plain_lit_law w _ _ c.lit-one.ensures,
    )
