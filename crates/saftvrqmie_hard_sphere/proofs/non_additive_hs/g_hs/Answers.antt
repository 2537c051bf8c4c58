-- `saftvrqmie_hard_sphere::non_additive_hs::g_hs` meets its contract. Assumes nothing.
use lib.Ieee.{of_bits, neg}
use Rattle.number.specs.Arith.{decimal}
use Rattle.saftvrqmie_hard_sphere.specs.NonAdditive.{g_hs}
use Rattle.saftvrqmie_hard_sphere.proofs.non_additive_hs.g_hs.Goals as goal

pub returns : goal.returns
unfolding g_hs decimal of_bits neg
returns g c w =
    let m = g.met.D.DualNum in
    rw (
      m.add_law w _ _ _ c.add-3.ensures,
      m.mul_plain_law w _ _ _ c.mul-5.ensures,
      m.plain_lit_law w _ _ c.lit-2.ensures,
      m.mul_law w _ _ _ c.mul-4.ensures,
      c.cube.ensures w,
      c.square-2.ensures w,
      m.add_law w _ _ _ c.add-2.ensures,
      m.mul_plain_law w _ _ _ c.mul-3.ensures,
      m.plain_lit_law w _ _ c.lit.ensures,
      m.mul_law w _ _ _ c.mul-2.ensures,
      c.square.ensures w,
      m.mul_law w _ _ _ c.mul-v.ensures,
      m.div_law w _ _ _ c.div-mu.ensures,
      m.add_law w _ _ _ c.add.ensures,
      m.mul_law w _ _ _ c.mul.ensures,
    )
