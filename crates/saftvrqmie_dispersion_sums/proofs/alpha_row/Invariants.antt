-- `saftvrqmie_dispersion_sums::alpha_row` meets its contract. Assumes nothing.
use Prim.Native.Nat.{◌≤◌, ◌-◌}
use mathlib.Core.Bool.{true}
use mathlib.Core.Path.{◌≡◌}
use mathlib.Core.List.{map}
use Rattle.number.specs.Ans.{held}
use Rattle.number.specs.Walk.{walk}
use Rattle.saftvrqmie_dispersion_sums.specs.State.{sheets_by}
use Rattle.saftvrqmie_dispersion_sums.specs.Dispersion.{alpha_turn}
use Rattle.saftvrqmie_dispersion_sums.proofs.alpha_row.Given as goal

abbrev pub invariant-loop-j : goal.invariant-loop-j
invariant-loop-j g l =
    let D = g.D.DualNum in
    let A = D.beside true in
    (l.i ≤ l.j) × (l.j ≤ l.s.n) × (held (map (D.of true) l.alphas) ≡ walk (l.j - l.i) (alpha_turn A (D.functions true) (sheets_by A l.s.n l.s.sheets.now l.s.orders (D.of true l.s.temperature) (D.entry_of true l.s.table.values.now l.s.table.slopes.now)) l.i) (map (D.of true) l.initial.alphas))

abbrev pub decreases-loop-j : goal.decreases-loop-j
decreases-loop-j g l = l.s.n - l.j
