-- `saftvrqmie_dispersion::perturbation::factors_4` meets its contract. Assumes nothing.
use lib.Ieee.{of_bits, neg}
use Rattle.number.specs.Arith.{decimal}
use Rattle.saftvrqmie_dispersion.specs.Perturbation.{factors4}
use Rattle.saftvrqmie_dispersion.proofs.perturbation.factors_4.Goals as goal

pub returns : goal.returns
unfolding factors4 decimal of_bits neg
returns g c w =
    let m = g.met.D.DualNum in
    rw (
      m.mul_plain_law w _ _ _ c.mul-4.ensures,
      m.plain_lit_law w _ _ c.lit.ensures,
      m.mul_law w _ _ _ c.mul-3.ensures,
      m.neg_law w _ _ c.neg.ensures,
      m.mul_law w _ _ _ c.mul-2.ensures,
      m.mul_law w _ _ _ c.mul.ensures,
    )
