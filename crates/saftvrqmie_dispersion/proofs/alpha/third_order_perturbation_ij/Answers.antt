-- `saftvrqmie_dispersion::alpha::third_order_perturbation_ij` meets its contract. Assumes nothing.
use lib.Ieee.{of_bits, neg}
use Rattle.number.specs.Arith.{decimal}
use Rattle.number.specs.Ans.{◌>>=◌}
use Rattle.number.proofs.Walk.{handed_on}
use Rattle.saftvrqmie_dispersion.specs.Alpha.{f, third_order_ij}
use Rattle.saftvrqmie_dispersion.proofs.alpha.third_order_perturbation_ij.Goals as goal

pub returns-in_err-e : goal.returns-in_err-e
unfolding third_order_ij f ◌>>=◌ decimal of_bits neg
returns-in_err-e g c w =
    let m = g.met.D.DualNum in
    let e = rw (m.add_law w _ _ _ c.add-x.ensures, m.mul_law w _ _ _ c.mul-2.ensures, c.square.ensures w, m.mul_law w _ _ _ c.mul.ensures, c.f-f5.ensures w, c.f-f4.ensures w, c.cube-a3.ensures w, c.square-a2.ensures w) at (c.in_err-e.ensures w) in
    rw (handed_on _ c.from_residual.ensures, ← e)

pub returns : goal.returns
unfolding third_order_ij f ◌>>=◌ decimal of_bits neg
returns g c w =
    let m = g.met.D.DualNum in
    let e = rw (m.add_law w _ _ _ c.add-x.ensures, m.mul_law w _ _ _ c.mul-2.ensures, c.square.ensures w, m.mul_law w _ _ _ c.mul.ensures, c.f-f5.ensures w, c.f-f4.ensures w, c.cube-a3.ensures w, c.square-a2.ensures w) at (c.in_ok-e.ensures w) in
    rw (
      m.mul_law w _ _ _ c.mul-5.ensures,
      m.mul_law w _ _ _ c.mul-4.ensures,
      m.mul_law w _ _ _ c.mul-3.ensures,
      m.neg_law w _ _ c.neg.ensures,
      c.cube.ensures w,
      c.f-f3.ensures w,
      c.cube-a3.ensures w,
      c.square-a2.ensures w,
      ← e,
    )
