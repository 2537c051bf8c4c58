-- `saftvrqmie_dispersion_sums::packing` meets its contract. Assumes nothing.
use Prim.Native.Nat.{ℕ, ◌+◌, ◌≤◌, ◌-◌}
use mathlib.Core.Bool.{true}
use Rattle.number.specs.Arith.{whole}
use Rattle.number.specs.Walk.{turns}
use Rattle.saftvrqmie_hard_sphere.specs.State.{Reads}
use Rattle.saftvrqmie_hard_sphere.proofs.Sums.{Holds}
use Rattle.saftvrqmie_dispersion_sums.specs.Dispersion.{packing_row}
use Rattle.saftvrqmie_dispersion_sums.proofs.packing.Given as goal

abbrev pub invariant-loop-i : goal.invariant-loop-i
invariant-loop-i g l =
    let D = g.D.DualNum in
    let A = D.beside true in
    (l.i ≤ l.s.n) × ((x : ℕ → A.Num) → Reads A (D.of true) l.s.n l.xs x → Holds (D.of true) (D.taken true) l.i l.r (turns l.i (packing_row A (D.functions true) l.s.n x (λ e. D.entry_of true l.s.table.values.now l.s.table.slopes.now (l.from + e))) (whole A 0)))

abbrev pub decreases-loop-i : goal.decreases-loop-i
decreases-loop-i g l = l.s.n - l.i
