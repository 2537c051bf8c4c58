-- `saftvrqmie_dispersion::perturbation::quantum_1` meets its contract. Assumes nothing.
use lib.Ieee.{of_bits, neg}
use Rattle.number.specs.Arith.{decimal}
use Rattle.saftvrqmie_dispersion.specs.Perturbation.{quantum1}
use Rattle.saftvrqmie_dispersion.proofs.perturbation.quantum_1.Goals as goal

pub returns : goal.returns
unfolding quantum1 decimal of_bits neg
returns g c w =
    let m = g.met.D.DualNum in
    rw (
      m.mul_plain_law w _ _ _ c.mul.ensures,
      c.q1_of.ensures w,
    )
