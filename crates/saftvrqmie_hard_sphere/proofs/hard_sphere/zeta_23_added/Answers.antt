-- `saftvrqmie_hard_sphere::hard_sphere::zeta_23_added` meets its contract. Assumes nothing.
use mathlib.Core.Path.{ap}
use lib.Ieee.{of_bits, neg}
use Rattle.number.specs.Arith.{decimal}
use Rattle.saftvrqmie_hard_sphere.specs.HardSphere.{Zeta23In, zeta23_added}
use Rattle.saftvrqmie_hard_sphere.proofs.hard_sphere.zeta_23_added.Goals as goal

pub returns : goal.returns
unfolding zeta23_added decimal of_bits neg
returns g c w v q =
    let m = g.met.D.DualNum in
    rw (
      m.add_law w _ _ _ c.add-2.ensures,
      ← ap (λ (y : Zeta23In _). y.y1) q,
      m.add_taken_law w v.y1 _,
      m.mul_plain_law w _ _ _ c.mul-4.ensures,
      m.mul_law w _ _ _ c.mul-3.ensures,
      c.cube.ensures w,
      m.add_law w _ _ _ c.add.ensures,
      ← ap (λ (y : Zeta23In _). y.y0) q,
      m.add_taken_law w v.y0 _,
      m.mul_plain_law w _ _ _ c.mul-2.ensures,
      m.mul_law w _ _ _ c.mul.ensures,
      c.square.ensures w,
    )
