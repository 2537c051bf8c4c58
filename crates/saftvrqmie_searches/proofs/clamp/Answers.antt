-- `saftvrqmie_searches::clamp` meets its contract. Assumes nothing.
use Rattle.saftvrqmie_searches.specs.Searches.{clamped}
use lib.Ieee.{of_bits}
use Rattle.number.specs.Arith.{decimal}
use Rattle.saftvrqmie_searches.proofs.clamp.Goals as goal

pub returns-then-size : goal.returns-then-size
unfolding clamped decimal of_bits
returns-then-size g c w =
    let m = g.met.D.DualNum in
    rw (m.mul_plain_law w _ _ _ c.mul.ensures, m.plain_lit_law w _ _ c.lit.ensures, ← c.re.ensures w, ← c.abs-size.ensures, c.if-size.true)

pub returns : goal.returns
unfolding clamped decimal of_bits
returns g c w = rw (← c.re.ensures w, ← c.abs-size.ensures, c.if-size.false)
