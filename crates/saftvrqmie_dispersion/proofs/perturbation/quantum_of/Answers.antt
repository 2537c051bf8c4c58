-- `saftvrqmie_dispersion::perturbation::quantum_of` meets its contract. Assumes nothing.
use lib.Ieee.{of_bits, neg}
use Rattle.number.specs.Arith.{decimal}
use Rattle.saftvrqmie_dispersion.specs.Perturbation.{quantum_of}
use Rattle.saftvrqmie_dispersion.proofs.perturbation.quantum_of.Goals as goal

pub returns : goal.returns
unfolding quantum_of decimal of_bits neg
returns g c w =
    rw (
      c.quantum_2-2.ensures w,
      c.quantum_2.ensures w,
      c.quantum_1-2.ensures w,
      c.quantum_1.ensures w,
    )
