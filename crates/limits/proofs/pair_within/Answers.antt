-- `limits::pair_within` meets its contract. Assumes nothing.
use Rattle.limits.specs.Limits.{in_limits, pair_within}
use borrow.Author.Tests.{eq-eqb, ne_eqb}
use lib.Ieee.{of_bits}
use Rattle.number.specs.Arith.{decimal}
use Rattle.limits.proofs.pair_within.Goals as goal

pub returns-then-i-j : goal.returns-then-i-j
unfolding pair_within decimal of_bits
returns-then-i-j c = rw (eq-eqb _ _ c.if-i-j.true, c.same_bits.ensures)

pub returns : goal.returns
unfolding pair_within in_limits decimal of_bits
returns c = rw (ne_eqb _ _ c.if-i-j.false, c.same_bits-2.ensures, c.within.ensures)
