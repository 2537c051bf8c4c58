-- `saftvrqmie_dispersion_sums::alphas_of` meets its contract. Assumes nothing.
use Prim.Native.Nat.{◌≤◌, ◌-◌}
use mathlib.Core.Bool.{true}
use mathlib.Core.Path.{◌≡◌}
use mathlib.Core.List.{map}
use Rattle.number.specs.Ans.{held}
use Rattle.number.specs.Walk.{walk}
use Rattle.saftvrqmie_dispersion_sums.specs.State.{sheets_by}
use Rattle.saftvrqmie_dispersion_sums.specs.Dispersion.{alpha_row}
use Rattle.saftvrqmie_dispersion_sums.proofs.alphas_of.Given as goal

abbrev pub invariant-loop-i : goal.invariant-loop-i
invariant-loop-i g l =
    let D = g.D.DualNum in
    let A = D.beside true in
    (l.i ≤ l.s.n) × (held (map (D.of true) l.alphas) ≡ walk l.i (alpha_row A (D.functions true) (sheets_by A l.s.n l.s.sheets.now l.s.orders (D.of true l.s.temperature) (D.entry_of true l.s.table.values.now l.s.table.slopes.now))) (map (D.of true) l.initial.alphas))

abbrev pub decreases-loop-i : goal.decreases-loop-i
decreases-loop-i g l = l.s.n - l.i
