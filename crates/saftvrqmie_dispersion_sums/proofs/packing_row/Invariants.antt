-- `saftvrqmie_dispersion_sums::packing_row` meets its contract. Assumes nothing.
use Prim.Native.Nat.{ℕ, ◌+◌, ◌≤◌, ◌-◌}
use mathlib.Core.Bool.{true}
use mathlib.Core.Path.{◌≡◌}
use Rattle.number.specs.Walk.{turns}
use Rattle.saftvrqmie_hard_sphere.specs.State.{Reads}
use Rattle.saftvrqmie_hard_sphere.proofs.Sums.{Holds}
use Rattle.saftvrqmie_dispersion_sums.specs.Dispersion.{packing_turn}
use Rattle.saftvrqmie_dispersion_sums.proofs.packing_row.Given as goal

abbrev pub invariant-loop-j : goal.invariant-loop-j
invariant-loop-j g l =
    let D = g.D.DualNum in
    let A = D.beside true in
    (l.j ≤ l.s.n) × ((x : ℕ → A.Num) (v : A.Num) → Reads A (D.of true) l.s.n l.xs x → D.taken true v ≡ D.of true l.initial.r → Holds (D.of true) (D.taken true) l.j l.r (turns l.j (packing_turn A (D.functions true) l.s.n x (λ e. D.entry_of true l.s.table.values.now l.s.table.slopes.now (l.from + e)) l.i) v))

abbrev pub decreases-loop-j : goal.decreases-loop-j
decreases-loop-j g l = l.s.n - l.j
