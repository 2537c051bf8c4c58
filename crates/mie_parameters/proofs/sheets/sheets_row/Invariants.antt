-- `mie_parameters::sheets::sheets_row` meets its contract. Assumes nothing.
use Rattle.std.proofs.Common.{◌≡◌, ◌-◌, ◌≤◌}
use Rattle.number.specs.Ans.{held}
use Rattle.number.specs.Walk.{walk}
use Rattle.mie_parameters.specs.Sheets.{sheets_turn}
use Rattle.mie_parameters.proofs.sheets.sheets_row.Given as goal

abbrev pub invariant-loop-j : goal.invariant-loop-j
invariant-loop-j g l = let L = g.L.PairLists in (l.j ≤ l.n) × (held l.s ≡ walk l.j (sheets_turn L.row_of l.n (L.pair_at l.l) l.i) l.initial.s)

abbrev pub decreases-loop-j : goal.decreases-loop-j
decreases-loop-j g l = l.n - l.j
