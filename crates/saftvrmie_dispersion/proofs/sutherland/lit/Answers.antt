-- `saftvrmie_dispersion::sutherland::lit` meets its contract. Assumes nothing.
use Rattle.saftvrmie_dispersion.proofs.sutherland.lit.Goals as goal

pub returns : goal.returns
returns g c w = g.met.D.DualNum.plain_lit_law w _ _ c.lit.ensures
