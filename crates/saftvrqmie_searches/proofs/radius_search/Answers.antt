-- `saftvrqmie_searches::radius_search` meets its contract. Assumes nothing.
use mathlib.Core.Bool.{false}
use Rattle.number.specs.Answer.{answer_by}
use Rattle.number.proofs.Walk.{via, handed_on}
use Rattle.saftvrqmie_potential.specs.Potential.{potential_by}
use Rattle.saftvrqmie_searches.proofs.Loops.{begun_at, spent_at, outside_at, found_at, goes_on}
use Rattle.saftvrqmie_searches.proofs.radius_search.Goals as goal

pub loop-k-init : goal.loop-k-init
loop-k-init g c = λ U t m h ht hm. begun_at _ _ _ _ _ _

pub returns-in_err-v : goal.returns-in_err-v
returns-in_err-v g c = λ U t m h ht hm.
    let of = answer_by (potential_by (g.D.DualNum.of false)) in
    rw (handed_on _ c.from_residual.ensures) (outside_at _ _ _ _ _ _ _ _ (c.loop-k.invariant U t m h ht hm) c.loop-k-test.true _ (via of (h _ _ c.potential_at.ensures.formula c.potential_at.ensures.staged) c.in_err-v.was))

pub returns-then-is_small : goal.returns-then-is_small
returns-then-is_small g c = λ U t m h ht hm.
    let of = answer_by (potential_by (g.D.DualNum.of false)) in
    found_at _ _ _ _ _ _ _ _ (c.loop-k.invariant U t m h ht hm) c.loop-k-test.true (g.met.D.WithoutEnds.after_law false) _ (via of (h _ _ c.potential_at.ensures.formula c.potential_at.ensures.staged) c.in_ok-v.was) _ (ht _ _ c.tested-f.ensures) _ (c.is_small.ensures false) c.if-is_small.true

pub loop-k-preserved : goal.loop-k-preserved
loop-k-preserved g c = λ U t m h ht hm.
    let of = answer_by (potential_by (g.D.DualNum.of false)) in
    goes_on _ _ _ _ _ _ _ _ (c.loop-k.invariant U t m h ht hm) c.loop-k-test.true (g.met.D.WithoutEnds.after_law false) _ (via of (h _ _ c.potential_at.ensures.formula c.potential_at.ensures.staged) c.in_ok-v.was) _ (ht _ _ c.tested-f.ensures) _ (c.is_small.ensures false) _ c.if-is_small.false (hm _ _ _ _ c.moved-r.ensures)

pub returns : goal.returns
returns g c = λ U t m h ht hm. spent_at _ _ _ _ _ _ _ _ (c.loop-k.invariant U t m h ht hm) c.loop-k-test.false
