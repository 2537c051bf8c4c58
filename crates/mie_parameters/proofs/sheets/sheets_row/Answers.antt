-- `mie_parameters::sheets::sheets_row` meets its contract. Assumes nothing.
use Rattle.std.proofs.Common.{rules}
use Rattle.mie_parameters.specs.Sheets.{sheets_row}
use Rattle.mie_parameters.proofs.Laws.{pair_held, pair_outside}
use Rattle.number.proofs.Walk.{walk_none, walk_next, walk_stop, walk_end, handed_on}
use Rattle.mie_parameters.proofs.sheets.sheets_row.Goals as goal

pub loop-j-init : goal.loop-j-init
loop-j-init g c = (search rules, walk_none _ _)

pub returns-in_err-p : goal.returns-in_err-p
unfolding sheets_row
returns-in_err-p g c = rw (handed_on _ c.from_residual.ensures, ← c.count-n.ensures) (walk_stop _ _ _ _ _ _ c.loop-j-test.true c.loop-j.invariant.1 (pair_outside _ _ _ _ _ _ _ _ c.pair.ensures c.in_err-p.was))

pub loop-j-preserved : goal.loop-j-preserved
loop-j-preserved g c = (search rules, walk_next _ _ _ _ _ c.loop-j.invariant.1 (pair_held _ _ _ _ _ _ _ _ _ _ c.pair.ensures c.in_ok-p.was c.row.ensures c.store_row.ensures))

pub returns : goal.returns
unfolding sheets_row
returns g c = rw (← c.count-n.ensures) (walk_end _ _ _ _ _ c.loop-j.invariant.0 c.loop-j-test.false c.loop-j.invariant.1)
