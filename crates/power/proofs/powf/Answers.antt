-- `powf` meets its contract. Assumes nothing.
use Rattle.power.proofs.Stages.{no_base, no_exponent, value_is}
use Rattle.power.proofs.powf.Goals as goal

pub returns-then-not-base_inside : goal.returns-then-not-base_inside
returns-then-not-base_inside c = no_base _ _ _ c.base_inside.ensures c.if-not-base_inside.true

pub returns-then-not-exponent_inside : goal.returns-then-not-exponent_inside
returns-then-not-exponent_inside c = no_exponent _ _ _ c.base_inside.ensures _ c.exponent_inside.ensures c.if-not-base_inside.false c.if-not-exponent_inside.true

pub returns : goal.returns
returns c = value_is _ _ _ c.base_inside.ensures _ c.exponent_inside.ensures _ _ _ c.if-not-base_inside.false c.if-not-exponent_inside.false c.log_base.ensures c.exponent.ensures c.raise.ensures
