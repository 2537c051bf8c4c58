-- `saftvrmie_dispersion::slope_sums::zeta_eff_dual` meets its contract. Assumes nothing.
use Rattle.saftvrmie_dispersion.specs.Shared.{zeta_eff_by}
use Rattle.saftvrmie_dispersion.proofs.slope_sums.zeta_eff_dual.Goals as goal

pub returns : goal.returns
unfolding zeta_eff_by
returns g c w =
    let m = g.met.S.SlopeNum in
    rw (
      m.mul_law w _ _ _ c.mul-4.ensures,
      m.add_plain_law w _ _ _ c.add-3.ensures,
      m.mul_law w _ _ _ c.mul-3.ensures,
      m.add_plain_law w _ _ _ c.add-2.ensures,
      m.mul_law w _ _ _ c.mul-2.ensures,
      m.add_plain_law w _ _ _ c.add.ensures,
      m.mul_plain_law w _ _ _ c.mul.ensures,
    )
