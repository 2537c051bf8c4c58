-- `saftvrmie_dispersion::chain::fluid_dual` meets its contract. Assumes nothing.
use lib.Ieee.{of_bits}
use Rattle.number.specs.Arith.{decimal}
use Rattle.saftvrmie_dispersion.specs.Sutherland.{fluid_of}
use Rattle.saftvrmie_dispersion.specs.Chain.{fluid_dual}
use Rattle.saftvrmie_dispersion.proofs.chain.fluid_dual.Goals as goal

pub returns : goal.returns
unfolding fluid_dual fluid_of decimal of_bits
returns g c w =
    let m = g.met.S.SlopeNum in
    rw (
      c.powi_down.ensures w,
      m.add_plain_law w _ _ _ c.add-3.ensures,
      m.neg_law w _ _ c.neg-2.ensures,
      m.mul_plain_law w _ _ _ c.mul-3.ensures,
      c.entered-2.ensures w,
      m.mul_law w _ _ _ c.mul-2.ensures,
      m.add_plain_law w _ _ _ c.add-2.ensures,
      m.add_plain_law w _ _ _ c.add.ensures,
      m.mul_plain_law w _ _ _ c.mul.ensures,
      c.entered.ensures w,
      m.neg_law w _ _ c.neg.ensures,
      c.k_hs_dual.ensures w,
      c.rho_dual.ensures w,
      c.entered-one.ensures w,
      c.zeta_dual-z.ensures w,
    )
