-- `saftvrqmie_hard_sphere::non_additive_hs::non_additive_column` meets its contract. Assumes nothing.
use Prim.Native.Nat.{ℕ, ◌≤◌, ◌-◌}
use mathlib.Core.Bool.{Bool}
use mathlib.Core.Path.{◌≡◌}
use Rattle.number.specs.Walk.{turns}
use Rattle.saftvrqmie_hard_sphere.specs.State.{sheet_in, Reads}
use Rattle.saftvrqmie_hard_sphere.specs.NonAdditive.{non_additive_turn}
use Rattle.saftvrqmie_hard_sphere.proofs.Sums.{Holds}
use Rattle.saftvrqmie_hard_sphere.proofs.non_additive_hs.non_additive_column.Given as goal

abbrev pub invariant-loop-i : goal.invariant-loop-i
invariant-loop-i g l =
    (l.i ≤ l.s.n) × ((w : Bool) → let D = g.D.DualNum in
    let A = D.beside w in
    (x : ℕ → A.Num) (v : A.Num) → Reads A (D.of w) l.s.n l.xs x → D.taken w v ≡ D.of w l.initial.r → Holds (D.of w) (D.taken w) l.i l.r (turns l.i (non_additive_turn A (D.functions w) l.s.n x (sheet_in (D.entry_of w l.s.table.values.now l.s.table.slopes.now) 1) (D.of w l.shared.rho_s) (D.of w l.shared.z2) (D.of w l.shared.f) l.j) v))

abbrev pub decreases-loop-i : goal.decreases-loop-i
decreases-loop-i g l = l.s.n - l.i
