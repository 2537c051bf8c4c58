-- `saftvrmie_dispersion::chain::zeta_dual` meets its contract. Assumes nothing.
use lib.Ieee.{of_bits}
use Rattle.number.specs.Arith.{decimal}
use Rattle.saftvrmie_dispersion.specs.Chain.{zeta_dual}
use Rattle.saftvrmie_dispersion.proofs.chain.zeta_dual.Goals as goal

pub returns-then-re : goal.returns-then-re
unfolding zeta_dual decimal of_bits
returns-then-re g c w =
    let m = g.met.S.SlopeNum in
    rw (← c.re.ensures w, c.if-re.true, m.mul_plain_law w _ _ _ c.mul.ensures, c.entered.ensures w, c.rho_dual-rho_s.ensures w)

pub returns : goal.returns
unfolding zeta_dual decimal of_bits
returns g c w =
    let n = g.met.S.Re.DualNum in
    rw (← c.re.ensures w, c.if-re.false, c.plain_mul.ensures w, n.div_law w _ _ _ c.div.ensures, c.rho_dual-rho_s.ensures w)
