-- `saftvrqmie_dispersion_sums::third_row` meets its contract. Assumes nothing.
use Prim.Native.Nat.{ℕ, ◌≤◌, ◌-◌}
use mathlib.Core.Bool.{true}
use mathlib.Core.Path.{◌≡◌}
use mathlib.Core.List.{map}
use Rattle.number.specs.Walk.{walk}
use Rattle.saftvrqmie_hard_sphere.specs.State.{sheet_in, Reads}
use Rattle.saftvrqmie_hard_sphere.proofs.Sums.{Walked}
use Rattle.saftvrqmie_dispersion_sums.specs.State.{Pairs}
use Rattle.saftvrqmie_dispersion_sums.specs.Dispersion.{third_turn}
use Rattle.saftvrqmie_dispersion_sums.proofs.third_row.Given as goal

abbrev pub invariant-loop-j : goal.invariant-loop-j
invariant-loop-j g l =
    let D = g.D.DualNum in
    let A = D.beside true in
    (l.j ≤ l.m.state.now.n) × ((x a : ℕ → A.Num) (v : A.Num) → Reads A (D.of true) l.m.state.now.n l.m.xs.now x → Pairs A l.m.state.now.n (map (D.of true) l.alphas) a → D.taken true v ≡ D.of true l.initial.a3 → Walked (D.of true) (D.taken true) l.j l.a3 (walk l.j (third_turn A (D.functions true) l.m.state.now.n (sheet_in (D.entry_of true l.m.state.now.table.values.now l.m.state.now.table.slopes.now) 2) x (D.of true l.m.segment.zeta_bar) a l.i) v))

abbrev pub decreases-loop-j : goal.decreases-loop-j
decreases-loop-j g l = l.m.state.now.n - l.j
