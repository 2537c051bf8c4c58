-- `saftvrqmie_hard_sphere::hard_sphere::zeta_added` meets its contract. Assumes nothing.
use mathlib.Core.Path.{ap}
use lib.Ieee.{of_bits, neg}
use Rattle.number.specs.Arith.{decimal}
use Rattle.saftvrqmie_hard_sphere.specs.HardSphere.{ZetaIn, zeta_added}
use Rattle.saftvrqmie_hard_sphere.proofs.hard_sphere.zeta_added.Goals as goal

pub returns : goal.returns
unfolding zeta_added decimal of_bits neg
returns g c w v q =
    let m = g.met.D.DualNum in
    rw (
      m.add_law w _ _ _ c.add-4.ensures,
      ← ap (λ (z : ZetaIn _). z.z3) q,
      m.add_taken_law w v.z3 _,
      m.mul_plain_law w _ _ _ c.mul-8.ensures,
      m.mul_law w _ _ _ c.mul-7.ensures,
      c.cube.ensures w,
      m.add_law w _ _ _ c.add-3.ensures,
      ← ap (λ (z : ZetaIn _). z.z2) q,
      m.add_taken_law w v.z2 _,
      m.mul_plain_law w _ _ _ c.mul-6.ensures,
      m.mul_law w _ _ _ c.mul-5.ensures,
      c.square.ensures w,
      m.add_law w _ _ _ c.add-2.ensures,
      ← ap (λ (z : ZetaIn _). z.z1) q,
      m.add_taken_law w v.z1 _,
      m.mul_plain_law w _ _ _ c.mul-4.ensures,
      m.mul_law w _ _ _ c.mul-3.ensures,
      c.powi-2.ensures w,
      m.add_law w _ _ _ c.add.ensures,
      ← ap (λ (z : ZetaIn _). z.z0) q,
      m.add_taken_law w v.z0 _,
      m.mul_plain_law w _ _ _ c.mul-2.ensures,
      m.mul_law w _ _ _ c.mul.ensures,
      c.powi.ensures w,
      m.plain_mul_law w _ _ _ c.mul-share.ensures,
      m.plain_div_law w _ _ _ c.div.ensures,
      m.plain_lit_law w _ _ c.lit.ensures,
      c.pi.ensures w,
    )
