-- `saftvrmie_dispersion::sutherland::a1s_b_of` meets its contract. Assumes nothing.
use mathlib.Core.Path.{◌∙◌}
use Rattle.saftvrmie_dispersion.specs.Shared.{a1s_b_by}
use Rattle.saftvrmie_dispersion.proofs.Shared.{i_is, j_is}
use Rattle.saftvrmie_dispersion.proofs.sutherland.a1s_b_of.Goals as goal

pub returns : goal.returns
unfolding a1s_b_by
returns g c w =
    let m = g.met.D.DualNum in
    let A = g.D.DualNum.beside w in
    rw (
      m.mul_law w _ _ _ c.mul.ensures,
      m.add_law w _ _ _ c.add.ensures,
      c.a1s_ij.ensures w,
      c.b_of-b.ensures w,
      c.jlambda_of.ensures w ∙ j_is A _ _ _ _,
      c.ilambda_of.ensures w ∙ i_is A _ _,
    )
