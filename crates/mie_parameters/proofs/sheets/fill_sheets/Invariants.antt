-- `mie_parameters::sheets::fill_sheets` meets its contract. Assumes nothing.
use Rattle.std.proofs.Common.{◌≡◌, ◌-◌, ◌≤◌}
use Rattle.number.specs.Ans.{held}
use Rattle.number.specs.Walk.{walk}
use Rattle.mie_parameters.specs.Sheets.{sheets_row}
use Rattle.mie_parameters.proofs.sheets.fill_sheets.Given as goal

abbrev pub invariant-loop-i : goal.invariant-loop-i
invariant-loop-i g l = let L = g.L.PairLists in (l.i ≤ l.n) × (held l.s ≡ walk l.i (sheets_row L.row_of l.n (L.pair_at l.l)) l.initial.s)

abbrev pub decreases-loop-i : goal.decreases-loop-i
decreases-loop-i g l = l.n - l.i
