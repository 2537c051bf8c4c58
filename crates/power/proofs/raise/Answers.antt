-- `raise` meets its contract. Assumes nothing.
use Rattle.power.proofs.Stages.{base_is, raised_is}
use Rattle.power.proofs.raise.Goals as goal

pub returns-then-exponent : goal.returns-then-exponent
returns-then-exponent c = base_is _ _ c.if-exponent.true

pub returns : goal.returns
returns c = raised_is _ _ _ _ c.if-exponent.false c.word.ensures.value c.raise_core.ensures
