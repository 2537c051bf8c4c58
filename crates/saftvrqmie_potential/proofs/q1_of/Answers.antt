-- `saftvrqmie_potential::q1_of` meets its contract. Assumes nothing.
use lib.Ieee.{of_bits}
use Rattle.number.specs.Arith.{decimal}
use Rattle.saftvrqmie_potential.specs.Potential.{q1}
use Rattle.saftvrqmie_potential.proofs.q1_of.Goals as goal

pub returns : goal.returns
unfolding q1 decimal of_bits
returns g c w =
    let m = g.met.D.DualNum in
    rw (
      m.plain_mul_law w _ _ _ c.mul.ensures,
      m.plain_sub_law w _ _ _ c.sub.ensures,
      m.plain_lit_law w _ _ c.lit.ensures,
    )
