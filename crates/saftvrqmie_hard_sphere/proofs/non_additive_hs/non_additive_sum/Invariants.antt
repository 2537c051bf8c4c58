-- `saftvrqmie_hard_sphere::non_additive_hs::non_additive_sum` meets its contract. Assumes nothing.
use Prim.Native.Nat.{ℕ, ◌≤◌, ◌-◌}
use mathlib.Core.Bool.{Bool}
use Rattle.number.specs.Arith.{whole}
use Rattle.number.specs.Walk.{turns}
use Rattle.saftvrqmie_hard_sphere.specs.State.{sheet_in, Reads}
use Rattle.saftvrqmie_hard_sphere.specs.NonAdditive.{non_additive_column}
use Rattle.saftvrqmie_hard_sphere.proofs.Sums.{Holds}
use Rattle.saftvrqmie_hard_sphere.proofs.non_additive_hs.non_additive_sum.Given as goal

abbrev pub invariant-loop-j : goal.invariant-loop-j
invariant-loop-j g l =
    (l.j ≤ l.s.n) × ((w : Bool) → let D = g.D.DualNum in
    let A = D.beside w in
    (x : ℕ → A.Num) → Reads A (D.of w) l.s.n l.xs x → Holds (D.of w) (D.taken w) l.j l.r (turns l.j (non_additive_column A (D.functions w) l.s.n x (sheet_in (D.entry_of w l.s.table.values.now l.s.table.slopes.now) 1) (D.of w l.shared.rho_s) (D.of w l.shared.z2) (D.of w l.shared.f)) (whole A 0)))

abbrev pub decreases-loop-j : goal.decreases-loop-j
decreases-loop-j g l = l.s.n - l.j
