-- `saftvrqmie_dispersion::perturbation::first_closed` meets its contract. Assumes nothing.
use lib.Ieee.{of_bits, neg}
use Rattle.number.specs.Arith.{decimal}
use Rattle.saftvrqmie_dispersion.specs.Perturbation.{first_closed}
use Rattle.saftvrqmie_dispersion.proofs.perturbation.first_closed.Goals as goal

pub returns : goal.returns
unfolding first_closed decimal of_bits neg
returns g c w =
    let m = g.met.D.DualNum in
    rw (
      c.after.ensures w,
      m.mul_plain_law w _ _ _ c.mul.ensures,
    )
