-- `saftvrqmie_hard_sphere::hard_sphere::helmholtz_energy_density` meets its contract. Assumes nothing.
use lib.Ieee.{of_bits, neg}
use Rattle.number.specs.Ans.{◌>>=◌}
use Rattle.number.specs.Arith.{decimal}
use Rattle.number.proofs.Walk.{handed_on}
use Rattle.saftvrqmie_hard_sphere.proofs.hard_sphere.helmholtz_energy_density.Goals as goal

pub returns-in_err-l : goal.returns-in_err-l
unfolding ◌>>=◌ decimal of_bits neg
returns-in_err-l g c w =
    let m = g.met.D.DualNum in
    let l = rw (m.mul_plain_law w _ _ _ c.mul-v.ensures, m.plain_lit_law w _ _ c.lit.ensures) at (c.in_err-l.ensures w) in
    rw (handed_on _ c.from_residual.ensures, ← l)

pub returns : goal.returns
unfolding ◌>>=◌ decimal of_bits neg
returns g c w =
    let m = g.met.D.DualNum in
    let l = rw (m.mul_plain_law w _ _ _ c.mul-v.ensures, m.plain_lit_law w _ _ c.lit.ensures) at (c.in_ok-l.ensures w) in
    rw (c.hard_sphere_of.ensures w, c.zeta_23-z23.ensures w, ← l)
