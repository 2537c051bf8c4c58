-- `saftvrqmie_dispersion::sums::fac` meets its contract. Assumes nothing.
use borrow.Author.Tests.{eq-eqb, ne_eqb}
use lib.Ieee.{of_bits, neg}
use Rattle.number.specs.Arith.{decimal}
use Rattle.saftvrqmie_dispersion.proofs.sums.fac.Goals as goal

pub returns-then-i-j : goal.returns-then-i-j
unfolding decimal of_bits neg
returns-then-i-j g c w =
    let m = g.met.D.DualNum in
    rw (eq-eqb _ _ c.if-i-j.true, m.plain_lit_law w _ _ c.lit.ensures)

pub returns : goal.returns
unfolding decimal of_bits neg
returns g c w =
    let m = g.met.D.DualNum in
    rw (ne_eqb _ _ c.if-i-j.false, m.plain_lit_law w _ _ c.lit-2.ensures)
