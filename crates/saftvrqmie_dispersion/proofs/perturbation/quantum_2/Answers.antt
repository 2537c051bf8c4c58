-- `saftvrqmie_dispersion::perturbation::quantum_2` meets its contract. Assumes nothing.
use lib.Ieee.{of_bits, neg}
use Rattle.number.specs.Arith.{decimal}
use Rattle.saftvrqmie_dispersion.specs.Perturbation.{quantum2}
use Rattle.saftvrqmie_dispersion.proofs.perturbation.quantum_2.Goals as goal

pub returns : goal.returns
unfolding quantum2 decimal of_bits neg
returns g c w =
    let m = g.met.D.DualNum in
    rw (
      m.mul_plain_law w _ _ _ c.mul.ensures,
      c.q2_of.ensures w,
      c.square.ensures w,
    )
