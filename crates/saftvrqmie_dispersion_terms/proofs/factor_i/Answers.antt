-- `saftvrqmie_dispersion_terms::factor_i` meets its contract. Assumes nothing.
use lib.Ieee.{of_bits, neg}
use Rattle.number.specs.Arith.{decimal}
use Rattle.saftvrqmie_dispersion_terms.specs.Terms.{factor_i}
use Rattle.saftvrqmie_dispersion_terms.proofs.factor_i.Goals as goal

pub returns : goal.returns
unfolding factor_i decimal of_bits neg
returns g c w =
    let m = g.met.D.DualNum in
    rw (
      m.div_law w _ _ _ c.div.ensures,
      c.cube.ensures w,
      m.add_plain_law w _ _ _ c.add-2.ensures,
      m.plain_lit_law w _ _ c.lit-2.ensures,
      m.neg_law w _ _ c.neg-2.ensures,
      m.add_plain_law w _ _ _ c.add.ensures,
      m.plain_lit_law w _ _ c.lit.ensures,
      m.neg_law w _ _ c.neg.ensures,
    )
