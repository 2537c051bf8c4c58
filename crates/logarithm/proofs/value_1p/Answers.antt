-- `logarithm::value_1p` meets its contract. Assumes nothing.
use borrow.Author.Tests.{lt-ltb, le-ltb}
use Rattle.logarithm.specs.Logarithm.{value1p}
use Rattle.logarithm.proofs.value_1p.Goals as goal

pub returns-then-exponent_field-lt969 : goal.returns-then-exponent_field-lt969
unfolding value1p
returns-then-exponent_field-lt969 c = rw (← c.exponent_field.ensures, lt-ltb _ _ c.if-exponent_field-lt969.true)

pub returns : goal.returns
unfolding value1p
returns c = rw (← c.exponent_field.ensures, le-ltb _ _ c.if-exponent_field-lt969.false) c.bits_1p.ensures
