-- `saftvrmie_dispersion::slope_sums::a1_dual` meets its contract. Assumes nothing.
use Rattle.saftvrmie_dispersion.specs.Terms.{a1_of}
use Rattle.saftvrmie_dispersion.proofs.slope_sums.a1_dual.Goals as goal

pub returns : goal.returns
unfolding a1_of
returns g c w =
    let m = g.met.S.SlopeNum in
    rw (
      m.mul_law w _ _ _ c.mul.ensures,
      m.sub_law w _ _ _ c.sub.ensures,
    )
