-- `logarithm::ln` meets its contract. Assumes nothing.
use Rattle.logarithm.proofs.Domain.{ln_outside, ln_value}
use Rattle.logarithm.proofs.ln.Goals as goal

pub returns-then-not-within : goal.returns-then-not-within
returns-then-not-within c = ln_outside _ _ c.within.ensures c.if-not-within.true

pub returns : goal.returns
returns c = ln_value _ _ c.within.ensures _ c.if-not-within.false c.ln_bits.ensures
