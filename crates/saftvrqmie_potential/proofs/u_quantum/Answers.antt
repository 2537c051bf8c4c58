-- `saftvrqmie_potential::u_quantum` meets its contract. Assumes nothing.
use lib.Ieee.{of_bits}
use Rattle.number.specs.Arith.{decimal}
use Rattle.saftvrqmie_potential.proofs.u_quantum.Goals as goal

pub returns : goal.returns
unfolding decimal of_bits
returns g c w =
    let m = g.met.D.DualNum in
    rw (
      m.sub_law w _ _ _ c.sub.ensures,
      m.mul_plain_law w _ _ _ c.mul-4.ensures,
      m.mul_plain_law w _ _ _ c.mul-3.ensures,
      c.recip-2.ensures w,
      m.mul_plain_law w _ _ _ c.mul-2.ensures,
      m.mul_plain_law w _ _ _ c.mul.ensures,
      c.recip.ensures w,
    )
