-- `saftvrqmie_hard_sphere::hard_sphere::zeta` meets its contract. Assumes nothing.
use Prim.Native.Nat.{◌≤◌, ◌-◌}
use mathlib.Core.Bool.{Bool}
use Rattle.number.specs.Arith.{whole}
use Rattle.number.specs.Walk.{turns}
use Rattle.saftvrqmie_hard_sphere.specs.State.{diagonal, points, sheet_in}
use Rattle.saftvrqmie_hard_sphere.specs.HardSphere.{zeta_by, zeta_each, zeta_added}
use Rattle.saftvrqmie_hard_sphere.proofs.Sums.{Holds}
use Rattle.saftvrqmie_hard_sphere.proofs.hard_sphere.zeta.Given as goal

abbrev pub invariant-loop-i : goal.invariant-loop-i
invariant-loop-i g l =
    (l.i ≤ l.s.n) × ((w : Bool) → let D = g.D.DualNum in
    let A = D.beside w in
    let z = whole A 0 in
    Holds (zeta_by (D.of w)) (zeta_each (D.taken w)) l.i l.z (turns l.i (λ i z. zeta_added A (D.functions w) (D.entry_of w l.s.densities.values.now l.s.densities.slopes.now i) (diagonal (sheet_in (D.entry_of w l.s.table.values.now l.s.table.slopes.now) 1) i) (points A l.s.m.now i) z) (record { z0 = z; z1 = z; z2 = z; z3 = z })))

abbrev pub decreases-loop-i : goal.decreases-loop-i
decreases-loop-i g l = l.s.n - l.i
