-- `saftvrqmie_potential::d_qm_prefactor` meets its contract. Assumes nothing.
use lib.Ieee.{of_bits}
use Rattle.number.specs.Arith.{decimal}
use Rattle.saftvrqmie_potential.specs.Potential.{prefactor}
use Rattle.saftvrqmie_potential.proofs.d_qm_prefactor.Goals as goal

pub returns : goal.returns
unfolding prefactor decimal of_bits
returns g c w =
    let m = g.met.D.DualNum in
    rw (
      m.plain_div_law w _ _ _ c.div-3.ensures,
      m.plain_mul_law w _ _ _ c.mul-3.ensures,
      m.plain_lit_law w _ _ c.lit-2.ensures,
      m.plain_div_law w _ _ _ c.div-2.ensures,
      m.plain_lit_law w _ _ c.lit.ensures,
      m.plain_div_law w _ _ _ c.div.ensures,
      m.plain_mul_law w _ _ _ c.mul-2.ensures,
      m.plain_mul_law w _ _ _ c.mul.ensures,
      c.tau-tau.ensures w,
      m.plain_lit_law w _ _ c.lit-kb.ensures,
      m.plain_lit_law w _ _ c.lit-planck.ensures,
    )
