-- `saftvrmie_diameter::beta_u_mie` meets its contract. Assumes nothing.
use Rattle.saftvrmie_diameter.proofs.beta_u_mie.Goals as goal

pub returns : goal.returns
returns g c w =
    let m = g.met.D.DualNum in
    rw (m.mul_law w _ _ _ c.mul.ensures, m.sub_law w _ _ _ c.sub.ensures, c.raise_inside.ensures w, c.raise_inside-2.ensures w)
