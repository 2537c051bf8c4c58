-- `saftvrmie_dispersion::slope_sums::a1s_b_of_dual` meets its contract. Assumes nothing.
use Rattle.saftvrmie_dispersion.specs.Sutherland.{b_of}
use Rattle.saftvrmie_dispersion.specs.Shared.{a1s_b_by}
use Rattle.saftvrmie_dispersion.proofs.slope_sums.a1s_b_of_dual.Goals as goal

pub returns : goal.returns
unfolding a1s_b_by b_of
returns g c w =
    let m = g.met.S.SlopeNum in
    rw (
      c.plain_mul.ensures w,
      m.add_law w _ _ _ c.add.ensures,
      c.a1s_ij_dual.ensures w,
      m.mul_law w _ _ _ c.mul.ensures,
      m.sub_law w _ _ _ c.sub.ensures,
      c.times_j-j.ensures w,
      c.times_i-i.ensures w,
    )
