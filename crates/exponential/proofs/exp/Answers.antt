-- `exponential::exp` meets its contract. Assumes nothing.
use Rattle.exponential.proofs.Argument.{value_is, outside_is}
use Rattle.exponential.proofs.exp.Goals as goal

pub returns-then-exp_inside : goal.returns-then-exp_inside
returns-then-exp_inside c = value_is _ _ c.exp_inside.ensures _ _ c.if-exp_inside.true c.exponent.ensures.value c.raise_core.ensures

pub returns-else-exp_inside : goal.returns-else-exp_inside
returns-else-exp_inside c = outside_is _ _ c.exp_inside.ensures c.if-exp_inside.false
