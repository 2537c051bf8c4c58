-- `saftvrqmie_hard_sphere::hard_sphere::zeta_23` meets its contract. Assumes nothing.
use Prim.Native.Nat.{◌≤◌, ◌-◌}
use mathlib.Core.Bool.{Bool}
use Rattle.number.specs.Arith.{whole}
use Rattle.number.specs.Walk.{turns}
use Rattle.saftvrqmie_hard_sphere.specs.State.{diagonal, points, sheet_in}
use Rattle.saftvrqmie_hard_sphere.specs.HardSphere.{zeta23_by, zeta23_each, zeta23_added}
use Rattle.saftvrqmie_hard_sphere.proofs.Sums.{Holds}
use Rattle.saftvrqmie_hard_sphere.proofs.hard_sphere.zeta_23.Given as goal

abbrev pub invariant-loop-i : goal.invariant-loop-i
invariant-loop-i g l =
    (l.i ≤ l.s.n) × ((w : Bool) → let D = g.D.DualNum in
    let A = D.beside w in
    let z = whole A 0 in
    Holds (zeta23_by (D.of w)) (zeta23_each (D.taken w)) l.i l.y (turns l.i (λ i y. zeta23_added A (D.entry_of w l.s.fractions.values.now l.s.fractions.slopes.now i) (diagonal (sheet_in (D.entry_of w l.s.table.values.now l.s.table.slopes.now) 1) i) (points A l.s.m.now i) y) (record { y0 = z; y1 = z })))

abbrev pub decreases-loop-i : goal.decreases-loop-i
decreases-loop-i g l = l.s.n - l.i
