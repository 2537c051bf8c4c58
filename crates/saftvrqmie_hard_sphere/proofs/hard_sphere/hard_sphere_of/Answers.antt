-- `saftvrqmie_hard_sphere::hard_sphere::hard_sphere_of` meets its contract. Assumes nothing.
use lib.Ieee.{of_bits, neg}
use Rattle.number.specs.Arith.{decimal}
use Rattle.saftvrqmie_hard_sphere.specs.HardSphere.{hard_sphere_of}
use Rattle.saftvrqmie_hard_sphere.proofs.hard_sphere.hard_sphere_of.Goals as goal

pub returns : goal.returns
unfolding hard_sphere_of decimal of_bits neg
returns g c w =
    let m = g.met.D.DualNum in
    rw (
      m.div_plain_law w _ _ _ c.div.ensures,
      c.pi.ensures w,
      m.mul_plain_law w _ _ _ c.mul-8.ensures,
      m.plain_lit_law w _ _ c.lit-2.ensures,
      m.add_law w _ _ _ c.add-2.ensures,
      m.mul_law w _ _ _ c.mul-7.ensures,
      m.sub_law w _ _ _ c.sub.ensures,
      m.mul_law w _ _ _ c.mul-6.ensures,
      c.square-3.ensures w,
      m.add_law w _ _ _ c.add.ensures,
      m.mul_law w _ _ _ c.mul-5.ensures,
      m.mul_law w _ _ _ c.mul-4.ensures,
      c.square-2.ensures w,
      c.square.ensures w,
      m.mul_plain_law w _ _ _ c.mul-3.ensures,
      m.plain_lit_law w _ _ c.lit.ensures,
      m.mul_law w _ _ _ c.mul-2.ensures,
      m.mul_law w _ _ _ c.mul.ensures,
      c.frac_1mz3-f.ensures w,
    )
