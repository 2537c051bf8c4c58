-- `saftvrmie::work` meets its contract. Assumes nothing.
use Rattle.saftvrmie.proofs.Laws.{turn_held, turn_outside}
use Rattle.number.proofs.Walk.{walk_none, walk_next, walk_stop, walk_end, handed_on}
use borrow.Author.Rules.{rules}
use Rattle.saftvrmie.proofs.work.Goals as goal

pub loop-i-init : goal.loop-i-init
loop-i-init c = (search rules, walk_none _ _)

pub returns-in_err-d : goal.returns-in_err-d
returns-in_err-d c = rw (handed_on _ c.from_residual.ensures, ← walk_stop _ _ _ _ _ _ c.loop-i-test.true c.loop-i.invariant.1 (turn_outside _ _ _ _ _ c.diameter_at.ensures _ c.in_err-d.was))

pub loop-i-preserved : goal.loop-i-preserved
loop-i-preserved c = (search rules, walk_next _ _ _ _ _ c.loop-i.invariant.1 (turn_held _ _ _ _ _ c.diameter_at.ensures _ c.in_ok-d.was))

pub returns : goal.returns
returns c = walk_end _ _ _ _ _ c.loop-i.invariant.0 c.loop-i-test.false c.loop-i.invariant.1
