-- `saftvrmie_energies::sums::rows` meets its contract. Assumes nothing.
use borrow.Author.Rules.{rules}
use Rattle.number.specs.Answer.{answer_by}
use Rattle.number.proofs.Walk.{via, walk_none, walk_next, walk_stop, walk_end, handed_on}
use Rattle.saftvrmie_dispersion.specs.Answer.{sums_by}
use Rattle.saftvrmie_energies.proofs.sums.rows.Goals as goal

pub loop-i-init : goal.loop-i-init
loop-i-init g c = (search rules, λ w f q. rw (c.no_sums-sum.ensures w) (walk_none _ _))

pub returns-in_err-sum : goal.returns-in_err-sum
returns-in_err-sum g c w f q = rw (handed_on _ c.from_residual.ensures) (walk_stop _ _ _ _ _ _ c.loop-i-test.true (c.loop-i.invariant.1 w f q) (via (answer_by (sums_by (g.D.DualNum.of w))) (q _ _ _ c.loop-i-test.true c.row.ensures) c.in_err-sum.was))

pub loop-i-preserved : goal.loop-i-preserved
loop-i-preserved g c = (search rules, λ w f q. walk_next _ _ _ _ _ (c.loop-i.invariant.1 w f q) (via (answer_by (sums_by (g.D.DualNum.of w))) (q _ _ _ c.loop-i-test.true c.row.ensures) c.in_ok-sum.was))

pub returns : goal.returns
returns g c w f q = walk_end _ _ _ _ _ c.loop-i.invariant.0 c.loop-i-test.false (c.loop-i.invariant.1 w f q)
