-- `saftvrqmie_potential::add_second` meets its contract. Assumes nothing.
use lib.Ieee.{of_bits}
use Rattle.number.specs.Arith.{decimal}
use Rattle.saftvrqmie_potential.specs.Shared.{second_from}
use Rattle.saftvrqmie_potential.proofs.Parts.{by_parts}
use Rattle.saftvrqmie_potential.proofs.add_second.Goals as goal

pub returns : goal.returns
unfolding second_from decimal of_bits
returns g c w =
    let m = g.met.D.DualNum in
    by_parts
    (rw (
      m.add_law w _ _ _ c.add.ensures,
      m.mul_law w _ _ _ c.mul.ensures,
      c.u_quantum.ensures w,
    ))
    (rw (
      m.add_law w _ _ _ c.add-5.ensures,
      m.mul_law w _ _ _ c.mul-8.ensures,
      m.add_law w _ _ _ c.add-4.ensures,
      m.mul_plain_law w _ _ _ c.mul-7.ensures,
      m.mul_plain_law w _ _ _ c.mul-6.ensures,
      m.plain_add_law w _ _ _ c.add-3.ensures,
      m.mul_plain_law w _ _ _ c.mul-5.ensures,
      c.recip-2.ensures w,
      m.mul_plain_law w _ _ _ c.mul-4.ensures,
      m.mul_plain_law w _ _ _ c.mul-3.ensures,
      m.plain_add_law w _ _ _ c.add-2.ensures,
      m.mul_plain_law w _ _ _ c.mul-2.ensures,
      m.neg_law w _ _ c.neg.ensures,
      c.recip.ensures w,
      m.plain_lit_law w _ _ c.lit-four.ensures,
    ))
    (rw (
      m.add_law w _ _ _ c.add-10.ensures,
      m.mul_law w _ _ _ c.mul-17.ensures,
      m.sub_law w _ _ _ c.sub.ensures,
      m.mul_plain_law w _ _ _ c.mul-16.ensures,
      m.mul_plain_law w _ _ _ c.mul-15.ensures,
      m.plain_add_law w _ _ _ c.add-9.ensures,
      m.mul_plain_law w _ _ _ c.mul-14.ensures,
      m.plain_add_law w _ _ _ c.add-8.ensures,
      m.mul_plain_law w _ _ _ c.mul-13.ensures,
      c.recip-4.ensures w,
      m.mul_plain_law w _ _ _ c.mul-12.ensures,
      m.mul_plain_law w _ _ _ c.mul-11.ensures,
      m.plain_add_law w _ _ _ c.add-7.ensures,
      m.mul_plain_law w _ _ _ c.mul-10.ensures,
      m.plain_add_law w _ _ _ c.add-6.ensures,
      m.mul_plain_law w _ _ _ c.mul-9.ensures,
      c.recip-3.ensures w,
      m.plain_lit_law w _ _ c.lit-five.ensures,
      m.plain_lit_law w _ _ c.lit-four.ensures,
    ))
