-- `saftvrqmie_dispersion_terms::eta_eff` meets its contract. Assumes nothing.
use lib.Ieee.{of_bits, neg}
use Rattle.number.specs.Arith.{decimal}
use Rattle.saftvrqmie_dispersion_terms.specs.Terms.{eta_eff}
use Rattle.saftvrqmie_dispersion_terms.proofs.eta_eff.Goals as goal

pub returns : goal.returns
unfolding eta_eff decimal of_bits neg
returns g c w =
    let m = g.met.D.DualNum in
    rw (
      m.mul_law w _ _ _ c.mul-4.ensures,
      m.add_plain_law w _ _ _ c.add-3.ensures,
      m.mul_law w _ _ _ c.mul-3.ensures,
      m.add_plain_law w _ _ _ c.add-2.ensures,
      m.mul_law w _ _ _ c.mul-2.ensures,
      m.add_plain_law w _ _ _ c.add.ensures,
      m.mul_plain_law w _ _ _ c.mul.ensures,
      c.lam_sum-c3.ensures w,
      c.lam_sum-c2.ensures w,
      c.lam_sum-c1.ensures w,
      c.lam_sum-c0.ensures w,
      m.plain_div_law w _ _ _ c.div-inv3.ensures,
      m.plain_pow_law w _ _ 3 c.cube.ensures,
      m.plain_div_law w _ _ _ c.div-inv2.ensures,
      m.plain_pow_law w _ _ 2 c.square.ensures,
      m.plain_div_law w _ _ _ c.div-inv1.ensures,
      m.plain_lit_law w _ _ c.lit-one.ensures,
    )
