-- `saftvrmie_dispersion::chain::g_hs` meets its contract. Assumes nothing.
use Rattle.saftvrmie_dispersion.specs.Chain.{g_hs}
use Rattle.saftvrmie_dispersion.proofs.chain.g_hs.Goals as goal

pub returns : goal.returns
unfolding g_hs
returns g c w =
    let m = g.met.D.DualNum in
    rw (
      c.exp.ensures w,
      m.add_law w _ _ _ c.add-3.ensures,
      m.mul_law w _ _ _ c.mul-3.ensures,
      c.cube.ensures w,
      m.add_law w _ _ _ c.add-2.ensures,
      m.mul_law w _ _ _ c.mul-2.ensures,
      c.square.ensures w,
      m.add_law w _ _ _ c.add.ensures,
      m.mul_law w _ _ _ c.mul.ensures,
    )
