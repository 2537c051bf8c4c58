-- `saftvrqmie_dispersion_terms::b_of` meets its contract. Assumes nothing.
use lib.Ieee.{of_bits, neg}
use Rattle.number.specs.Arith.{decimal}
use Rattle.saftvrqmie_dispersion_terms.specs.Terms.{b_of}
use Rattle.saftvrqmie_dispersion_terms.proofs.b_of.Goals as goal

pub returns : goal.returns
unfolding b_of decimal of_bits neg
returns g c w =
    let m = g.met.D.DualNum in
    rw (
      m.mul_plain_law w _ _ _ c.mul-5.ensures,
      m.mul_plain_law w _ _ _ c.mul-4.ensures,
      m.plain_lit_law w _ _ c.lit.ensures,
      m.mul_law w _ _ _ c.mul-3.ensures,
      m.add_law w _ _ _ c.add.ensures,
      m.mul_law w _ _ _ c.mul-2.ensures,
      m.mul_law w _ _ _ c.mul.ensures,
    )
