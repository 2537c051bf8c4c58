-- `saftvrqmie_dispersion_sums::rows` meets its contract. Assumes nothing.
use Prim.Native.Nat.{ℕ, ◌≤◌, ◌-◌}
use mathlib.Core.Bool.{true}
use Rattle.number.specs.Ans.{Ans}
use Rattle.number.specs.Arith.{whole}
use Rattle.number.specs.Walk.{walk}
use Rattle.saftvrqmie_hard_sphere.proofs.Sums.{Walked}
use Rattle.saftvrqmie_dispersion_sums.specs.State.{Rows}
use Rattle.saftvrqmie_dispersion_sums.proofs.rows.Given as goal

abbrev pub invariant-loop-i : goal.invariant-loop-i
invariant-loop-i g l =
    let D = g.D.DualNum in
    let A = D.beside true in
    (l.i ≤ l.n) × ((f : ℕ → A.Num → Ans A.Num) → Rows l.n (D.of true) (D.taken true) (goal.F-post g l.row) f → Walked (D.of true) (D.taken true) l.i l.sum (walk l.i f (whole A 0)))

abbrev pub decreases-loop-i : goal.decreases-loop-i
decreases-loop-i g l = l.n - l.i
