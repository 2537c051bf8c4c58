-- `saftvrqmie_dispersion::perturbation::dispersion_pair` meets its contract. Assumes nothing.
use lib.Ieee.{of_bits, neg}
use Rattle.number.specs.Arith.{decimal}
use Rattle.saftvrqmie_dispersion.specs.Perturbation.{dispersion_pair}
use Rattle.saftvrqmie_dispersion.proofs.perturbation.dispersion_pair.Goals as goal

pub returns : goal.returns
unfolding dispersion_pair decimal of_bits neg
returns g c w =
    let m = g.met.D.DualNum in
    rw (
      m.div_plain_law w _ _ _ c.div-2.ensures,
      m.plain_pow_law w _ _ 2 c.square.ensures,
      m.div_law w _ _ _ c.div.ensures,
      m.mul_plain_law w _ _ _ c.mul.ensures,
      c.recip.ensures w,
    )
