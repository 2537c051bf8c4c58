-- `saftvrmie_dispersion::sutherland::zeta_eff` meets its contract. Assumes nothing.
use lib.Ieee.{of_bits, neg}
use Rattle.number.specs.Arith.{decimal}
use Rattle.saftvrmie_dispersion.specs.Shared.{zeta_eff_by}
use Rattle.saftvrmie_dispersion.proofs.sutherland.zeta_eff.Goals as goal

pub returns : goal.returns
unfolding zeta_eff_by decimal of_bits neg
returns g c w =
    let m = g.met.D.DualNum in
    rw (
      m.mul_law w _ _ _ c.mul-4.ensures,
      m.add_plain_law w _ _ _ c.add-3.ensures,
      m.mul_law w _ _ _ c.mul-3.ensures,
      m.add_plain_law w _ _ _ c.add-2.ensures,
      m.mul_law w _ _ _ c.mul-2.ensures,
      m.add_plain_law w _ _ _ c.add.ensures,
      m.mul_plain_law w _ _ _ c.mul.ensures,
    )
