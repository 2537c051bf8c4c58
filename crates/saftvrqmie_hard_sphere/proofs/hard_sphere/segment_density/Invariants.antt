-- `saftvrqmie_hard_sphere::hard_sphere::segment_density` meets its contract. Assumes nothing.
use Prim.Native.Nat.{◌≤◌, ◌-◌}
use mathlib.Core.Bool.{Bool}
use Rattle.number.specs.Arith.{zero64}
use Rattle.number.specs.Walk.{turns}
use Rattle.saftvrqmie_hard_sphere.specs.State.{points}
use Rattle.saftvrqmie_hard_sphere.proofs.Sums.{Holds}
use Rattle.saftvrqmie_hard_sphere.proofs.hard_sphere.segment_density.Given as goal

abbrev pub invariant-loop-i : goal.invariant-loop-i
invariant-loop-i g l =
    (l.i ≤ l.n) × ((w : Bool) → let D = g.D.DualNum in
    let A = D.beside w in
    Holds (D.of w) (D.taken w) l.i l.r (turns l.i (λ i s. A.add s (A.mul (D.entry_of w l.rho.values.now l.rho.slopes.now i) (points A l.m i))) (A.lit zero64)))

abbrev pub decreases-loop-i : goal.decreases-loop-i
decreases-loop-i g l = l.n - l.i
