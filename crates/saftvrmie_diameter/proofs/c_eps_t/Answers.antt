-- `saftvrmie_diameter::c_eps_t` meets its contract. Assumes nothing.
use Rattle.saftvrmie_diameter.specs.Diameter.{c_eps_t}
use Rattle.saftvrmie_diameter.proofs.c_eps_t.Goals as goal

pub returns : goal.returns
unfolding c_eps_t
returns g c w =
    let m = g.met.D.DualNum in
    rw (m.mul_plain_law w _ _ _ c.mul-2.ensures, m.mul_plain_law w _ _ _ c.mul.ensures, c.recip.ensures w)
