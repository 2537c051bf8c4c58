-- `saftvrqmie_total::contributions_total` meets its contract. Assumes nothing.
use Rattle.number.specs.Answer.{answer}
use Rattle.number.proofs.Walk.{via, handed_on}
use Rattle.saftvrqmie_total.proofs.Ways.{first_refused, alone, last_refused, both}
use Rattle.saftvrqmie_total.proofs.contributions_total.Goals as goal

pub returns-in_err-first : goal.returns-in_err-first
returns-in_err-first c = rw (handed_on _ c.from_residual.ensures) (first_refused _ _ _ (via answer c.finite_sum.ensures c.in_err-first.was))

pub returns-then-not-non_additive : goal.returns-then-not-non_additive
returns-then-not-non_additive c = alone _ _ _ (via answer c.finite_sum.ensures c.in_ok-first.was) c.if-not-non_additive.true

pub returns-in_err-last : goal.returns-in_err-last
returns-in_err-last c = rw (handed_on _ c.from_residual-in_err-last.ensures) (last_refused _ _ _ (via answer c.finite_sum.ensures c.in_ok-first.was) _ c.if-not-non_additive.false (via answer c.finite_sum-2.ensures c.in_err-last.was))

pub returns : goal.returns
returns c = both _ _ _ (via answer c.finite_sum.ensures c.in_ok-first.was) _ c.if-not-non_additive.false (via answer c.finite_sum-2.ensures c.in_ok-last.was)
