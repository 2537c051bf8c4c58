-- `saftvrqmie_hard_sphere::non_additive_hs::non_additive` meets its contract. Assumes nothing.
use Rattle.saftvrqmie_hard_sphere.proofs.Ways.{non_additive_is}
use Rattle.saftvrqmie_hard_sphere.proofs.non_additive_hs.non_additive.Goals as goal

pub returns : goal.returns
returns g c w q =
    let m = g.met.D.DualNum in
    non_additive_is _ _ _ _ _ _ _ _ _ _ _ _ _ q (c.segment_density-rho_s.ensures w) (c.frac_1mz3-f.ensures w) (c.non_additive_sum-sum.ensures w _ (c.density_shares.ensures w)) (m.mul_law w _ _ _ c.mul.ensures) (c.after.ensures w) (c.after-2.ensures w)
