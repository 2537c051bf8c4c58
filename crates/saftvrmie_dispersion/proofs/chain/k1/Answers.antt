-- `saftvrmie_dispersion::chain::k1` meets its contract. Assumes nothing.
use lib.Ieee.{of_bits}
use Rattle.number.specs.Arith.{decimal}
use Rattle.saftvrmie_dispersion.proofs.chain.k1.Goals as goal

pub returns : goal.returns
unfolding decimal of_bits
returns g c w =
    let m = g.met.D.DualNum in
    rw (
      m.mul_law w _ _ _ c.mul-4.ensures,
      m.sub_plain_law w _ _ _ c.sub.ensures,
      m.plain_lit_law w _ _ c.lit-3.ensures,
      m.add_law w _ _ _ c.add.ensures,
      m.mul_plain_law w _ _ _ c.mul-3.ensures,
      m.plain_lit_law w _ _ c.lit-2.ensures,
      m.mul_plain_law w _ _ _ c.mul-2.ensures,
      m.plain_lit_law w _ _ c.lit.ensures,
      m.mul_law w _ _ _ c.mul.ensures,
    )
