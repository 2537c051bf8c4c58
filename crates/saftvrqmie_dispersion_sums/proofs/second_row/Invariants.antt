-- `saftvrqmie_dispersion_sums::second_row` meets its contract. Assumes nothing.
use Prim.Native.Nat.{ℕ, ◌≤◌, ◌-◌}
use mathlib.Core.Bool.{true}
use mathlib.Core.Path.{◌≡◌}
use mathlib.Core.List.{map}
use Rattle.number.specs.Walk.{walk}
use Rattle.saftvrqmie_hard_sphere.specs.State.{Reads}
use Rattle.saftvrqmie_hard_sphere.proofs.Sums.{Walked}
use Rattle.saftvrqmie_dispersion_sums.specs.State.{sheets_by, Pairs}
use Rattle.saftvrqmie_dispersion_sums.specs.Dispersion.{mixture_by, second_pair_turn}
use Rattle.saftvrqmie_dispersion_sums.proofs.second_row.Given as goal

abbrev pub invariant-loop-j : goal.invariant-loop-j
invariant-loop-j g l =
    let D = g.D.DualNum in
    let A = D.beside true in
    (l.i ≤ l.j) × (l.j ≤ l.m.state.now.n) × ((x a : ℕ → A.Num) (v : A.Num) → Reads A (D.of true) l.m.state.now.n l.m.xs.now x → Pairs A l.m.state.now.n (map (D.of true) l.alphas) a → D.taken true v ≡ D.of true l.initial.a2 → Walked (D.of true) (D.taken true) (l.j - l.i) l.a2 (walk (l.j - l.i) (second_pair_turn A (D.functions true) (sheets_by A l.m.state.now.n l.m.state.now.sheets.now l.m.state.now.orders (D.of true l.m.state.now.temperature) (D.entry_of true l.m.state.now.table.values.now l.m.state.now.table.slopes.now)) x (mixture_by (D.of true) l.m.segment) a l.i) v))

abbrev pub decreases-loop-j : goal.decreases-loop-j
decreases-loop-j g l = l.m.state.now.n - l.j
