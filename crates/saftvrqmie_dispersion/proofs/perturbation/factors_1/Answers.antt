-- `saftvrqmie_dispersion::perturbation::factors_1` meets its contract. Assumes nothing.
use lib.Ieee.{of_bits, neg}
use Rattle.number.specs.Arith.{decimal}
use Rattle.saftvrqmie_dispersion.specs.Perturbation.{factors1}
use Rattle.saftvrqmie_dispersion.proofs.perturbation.factors_1.Goals as goal

pub returns : goal.returns
unfolding factors1 decimal of_bits neg
returns g c w =
    let m = g.met.D.DualNum in
    rw (
      m.neg_law w _ _ c.neg.ensures,
      m.add_law w _ _ _ c.add.ensures,
      m.mul_plain_law w _ _ _ c.mul-afac.ensures,
      m.plain_lit_law w _ _ c.lit-2.ensures,
      m.mul_plain_law w _ _ _ c.mul-rfac.ensures,
      m.plain_lit_law w _ _ c.lit.ensures,
    )
