-- `mie_parameters::sheets::fill_sheets` meets its contract. Assumes nothing.
use Rattle.std.proofs.Common.{rules}
use Rattle.mie_parameters.proofs.Laws.{goes_on, refused_at}
use Rattle.number.proofs.Walk.{walk_none, walk_stop, handed_on}
use Rattle.mie_parameters.proofs.sheets.fill_sheets.Goals as goal

pub loop-i-init : goal.loop-i-init
loop-i-init g c = (search rules, walk_none _ _)

pub returns-in_err-sheets_row : goal.returns-in_err-sheets_row
returns-in_err-sheets_row g c = rw (handed_on _ c.from_residual.ensures, ← c.count-n.ensures) (walk_stop _ _ _ _ _ _ c.loop-i-test.true c.loop-i.invariant.1 (refused_at _ _ _ _ (rw (← c.count-n.ensures) at c.sheets_row.ensures) c.in_err-sheets_row.was))

pub loop-i-preserved : goal.loop-i-preserved
loop-i-preserved g c = (search rules, goes_on _ _ _ _ _ _ c.loop-i.invariant.1 (rw (← c.count-n.ensures) at c.sheets_row.ensures) c.in_ok-sheets_row.was)
