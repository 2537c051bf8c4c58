-- `saftvrqmie::walk::work_pairs` meets its contract. Assumes nothing.
use Rattle.mie_parameters.proofs.Laws.{goes_on, refused_at}
use Rattle.number.proofs.Walk.{walk_none, walk_stop, walk_end, handed_on}
use borrow.Author.Rules.{rules}
use Rattle.saftvrqmie.proofs.walk.work_pairs.Goals as goal

pub loop-i-init : goal.loop-i-init
loop-i-init g c = (search rules, walk_none _ _)

pub returns-in_err-work_row : goal.returns-in_err-work_row
returns-in_err-work_row g c = rw (handed_on _ c.from_residual.ensures) (walk_stop _ _ _ _ _ _ c.loop-i-test.true c.loop-i.invariant.1 (refused_at _ _ _ _ c.work_row.ensures c.in_err-work_row.was))

pub loop-i-preserved : goal.loop-i-preserved
loop-i-preserved g c = (search rules, goes_on _ _ _ _ _ _ c.loop-i.invariant.1 c.work_row.ensures c.in_ok-work_row.was)

pub returns : goal.returns
returns g c = walk_end _ _ _ _ _ c.loop-i.invariant.0 c.loop-i-test.false c.loop-i.invariant.1
