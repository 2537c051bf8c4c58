-- `saftvrmie_dispersion::chain::k0` meets its contract. Assumes nothing.
use lib.Ieee.{of_bits}
use Rattle.number.specs.Arith.{decimal}
use Rattle.saftvrmie_dispersion.proofs.chain.k0.Goals as goal

pub returns : goal.returns
unfolding decimal of_bits
returns g c w =
    let m = g.met.D.DualNum in
    rw (
      m.add_law w _ _ _ c.add.ensures,
      m.div_plain_law w _ _ _ c.div.ensures,
      m.plain_lit_law w _ _ c.lit.ensures,
      m.mul_law w _ _ _ c.mul-2.ensures,
      m.mul_law w _ _ _ c.mul.ensures,
      m.neg_law w _ _ c.neg.ensures,
    )
