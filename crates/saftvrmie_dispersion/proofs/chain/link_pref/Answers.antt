-- `saftvrmie_dispersion::chain::link_pref` meets its contract. Assumes nothing.
use lib.Ieee.{of_bits}
use Rattle.number.specs.Arith.{decimal}
use Rattle.saftvrmie_dispersion.specs.Chain.{link_pref}
use Rattle.saftvrmie_dispersion.proofs.chain.link_pref.Goals as goal

pub returns : goal.returns
unfolding link_pref decimal of_bits
returns g c w =
    let m = g.met.D.DualNum in
    rw (
      m.mul_plain_law w _ _ _ c.mul-3.ensures,
      c.pi.ensures w,
      m.mul_plain_law w _ _ _ c.mul-2.ensures,
      m.plain_lit_law w _ _ c.lit.ensures,
      m.mul_law w _ _ _ c.mul.ensures,
    )
