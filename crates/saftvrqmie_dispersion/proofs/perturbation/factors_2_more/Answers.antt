-- `saftvrqmie_dispersion::perturbation::factors_2_more` meets its contract. Assumes nothing.
use lib.Ieee.{of_bits, neg}
use Rattle.number.specs.Arith.{decimal}
use Rattle.saftvrqmie_dispersion.specs.Perturbation.{factors2_more}
use Rattle.saftvrqmie_dispersion.proofs.perturbation.factors_2_more.Goals as goal

pub returns : goal.returns
unfolding factors2_more decimal of_bits neg
returns g c w =
    let m = g.met.D.DualNum in
    rw (
      m.add_law w _ _ _ c.add-4.ensures,
      m.mul_plain_law w _ _ _ c.mul-3.ensures,
      m.neg_law w _ _ c.neg.ensures,
      m.add_law w _ _ _ c.add-3.ensures,
      m.add_law w _ _ _ c.add-2.ensures,
      m.mul_plain_law w _ _ _ c.mul-2.ensures,
      m.add_law w _ _ _ c.add.ensures,
      m.mul_plain_law w _ _ _ c.mul.ensures,
      m.plain_lit_law w _ _ c.lit-two.ensures,
    )
