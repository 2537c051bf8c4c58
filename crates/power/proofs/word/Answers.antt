-- `word` meets its contract. Assumes nothing.
use Rattle.power.proofs.Stages.{sum_range, difference_range, sum_is, difference_is}
use Rattle.power.proofs.word.Goals as goal

pub returns-then-log-exponent : goal.returns-then-log-exponent
returns-then-log-exponent c =
    record { value = sum_is _ _ _ c.product-v.ensures.value c.if-log-exponent.true; range = sum_range _ c.product-v.ensures.small }

pub returns-else-log-exponent : goal.returns-else-log-exponent
returns-else-log-exponent c =
    record { value = difference_is _ _ _ c.product-v.ensures.value c.if-log-exponent.false; range = difference_range _ c.product-v.ensures.small }
