-- `saftvrqmie_searches::diameter_by` meets its contract. Assumes nothing.
use mathlib.Core.Bool.{false}
use borrow.Author.Rules.{rules}
use Rattle.number.specs.Answer.{answer_by}
use Rattle.number.proofs.Walk.{via, walk_none, walk_next, walk_stop, walk_end, handed_on}
use Rattle.saftvrqmie_searches.specs.Diameter.{diameter_by}
use Rattle.saftvrqmie_searches.proofs.diameter_by.Goals as goal

pub loop-k-init : goal.loop-k-init
loop-k-init g c = (search rules, λ U h. walk_none _ _)

pub returns-in_err-d_hs : goal.returns-in_err-d_hs
unfolding diameter_by
returns-in_err-d_hs g c =
    let of = answer_by (g.D.DualNum.of false) in
    record {
      formula = λ p h. rw (handed_on _ c.from_residual.ensures) (walk_stop _ _ _ _ _ _ c.loop-k-test.true (c.loop-k.invariant.1 _ (λ r a k l. k p h)) (via of (c.node.ensures _ (λ r a k l. k p h)) c.in_err-d_hs.was));
      staged = λ U h. rw (handed_on _ c.from_residual.ensures) (walk_stop _ _ _ _ _ _ c.loop-k-test.true (c.loop-k.invariant.1 U (λ r a k l. rw (← h r) l)) (via of (c.node.ensures U (λ r a k l. rw (← h r) l)) c.in_err-d_hs.was));
    }

pub loop-k-preserved : goal.loop-k-preserved
loop-k-preserved g c = (search rules, λ U h. walk_next _ _ _ _ _ (c.loop-k.invariant.1 U h) (via (answer_by (g.D.DualNum.of false)) (c.node.ensures U h) c.in_ok-d_hs.was))

pub returns : goal.returns
unfolding diameter_by
returns g c =
    record {
      formula = λ p h. walk_end _ _ _ _ _ c.loop-k.invariant.0 c.loop-k-test.false (c.loop-k.invariant.1 _ (λ r a k l. k p h));
      staged = λ U h. walk_end _ _ _ _ _ c.loop-k.invariant.0 c.loop-k-test.false (c.loop-k.invariant.1 U (λ r a k l. rw (← h r) l));
    }
