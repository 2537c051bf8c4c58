-- `saftvrqmie_total::finite_sum` meets its contract. Assumes nothing.
use Rattle.number.specs.Answer.{answer}
use Rattle.number.proofs.Walk.{via, handed_on}
use Rattle.saftvrqmie_total.proofs.Ways.{sum_refused, sum_held}
use Rattle.saftvrqmie_total.proofs.finite_sum.Goals as goal

pub returns-in_err-if_finite : goal.returns-in_err-if_finite
returns-in_err-if_finite c = rw (handed_on _ c.from_residual.ensures) (sum_refused _ _ _ c.rounded_sum-a.ensures _ (via answer c.if_finite.ensures c.in_err-if_finite.was))

pub returns : goal.returns
returns c = sum_held _ _ _ c.rounded_sum-a.ensures _ (via answer c.if_finite.ensures c.in_ok-if_finite.was)
