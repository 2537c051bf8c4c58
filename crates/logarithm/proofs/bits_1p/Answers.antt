-- `logarithm::bits_1p` meets its contract. Assumes nothing.
use borrow.Author.Tests.{lt-ltb, le-ltb}
use Rattle.logarithm.specs.Logarithm.{bits1p}
use Rattle.logarithm.proofs.Signs.{top_bit}
use Rattle.logarithm.proofs.bits_1p.Goals as goal

pub returns-then-f-lt1021 : goal.returns-then-f-lt1021
unfolding bits1p
returns-then-f-lt1021 c =
    rw (← c.exponent_field-f.ensures, lt-ltb _ _ c.if-f-lt1021.true, ← c.significand-m.ensures, ← top_bit c.args.b c.ranges.b.fits, ← c.is_negative-negative.ensures) c.small_1p.ensures

pub returns : goal.returns
unfolding bits1p
returns c =
    rw (← c.exponent_field-f.ensures, le-ltb _ _ c.if-f-lt1021.false, ← c.significand-m.ensures, ← top_bit c.args.b c.ranges.b.fits, ← c.is_negative-negative.ensures) c.large_1p.ensures
