-- `saftvrqmie_potential::quantum_d` meets its contract. Assumes nothing.
use lib.Ieee.{of_bits}
use Rattle.number.specs.Arith.{decimal}
use Rattle.saftvrqmie_potential.specs.Potential.{quantum_d}
use Rattle.saftvrqmie_potential.proofs.quantum_d.Goals as goal

pub returns : goal.returns
unfolding quantum_d decimal of_bits
returns g c w =
    let m = g.met.D.DualNum in
    rw (
      m.mul_plain_law w _ _ _ c.mul.ensures,
      c.d_qm_prefactor.ensures w,
      m.div_plain_law w _ _ _ c.div.ensures,
      c.recip.ensures w,
    )
