-- `saftvrqmie_potential::q2_of` meets its contract. Assumes nothing.
use lib.Ieee.{of_bits}
use Rattle.number.specs.Arith.{decimal}
use Rattle.saftvrqmie_potential.specs.Potential.{q2}
use Rattle.saftvrqmie_potential.proofs.q2_of.Goals as goal

pub returns : goal.returns
unfolding q2 decimal of_bits
returns g c w =
    let m = g.met.D.DualNum in
    rw (
      m.plain_mul_law w _ _ _ c.mul-4.ensures,
      m.plain_sub_law w _ _ _ c.sub.ensures,
      m.plain_lit_law w _ _ c.lit-4.ensures,
      m.plain_mul_law w _ _ _ c.mul-3.ensures,
      m.plain_mul_law w _ _ _ c.mul-2.ensures,
      m.plain_add_law w _ _ _ c.add-2.ensures,
      m.plain_lit_law w _ _ c.lit-3.ensures,
      m.plain_mul_law w _ _ _ c.mul.ensures,
      m.plain_add_law w _ _ _ c.add.ensures,
      m.plain_lit_law w _ _ c.lit-2.ensures,
      m.plain_lit_law w _ _ c.lit.ensures,
    )
