-- `saftvrqmie_hard_sphere::non_additive_hs::non_additive_ij` meets its contract. Assumes nothing.
use lib.Ieee.{of_bits, neg}
use Rattle.number.specs.Arith.{decimal}
use Rattle.saftvrqmie_hard_sphere.specs.NonAdditive.{non_additive_ij}
use Rattle.saftvrqmie_hard_sphere.proofs.non_additive_hs.non_additive_ij.Goals as goal

pub returns : goal.returns
unfolding non_additive_ij decimal of_bits neg
returns g c w =
    let m = g.met.D.DualNum in
    rw (
      m.mul_plain_law w _ _ _ c.mul-7.ensures,
      c.pi.ensures w,
      m.mul_plain_law w _ _ _ c.mul-6.ensures,
      m.plain_lit_law w _ _ c.lit-2.ensures,
      m.mul_law w _ _ _ c.mul-5.ensures,
      m.sub_law w _ _ _ c.sub.ensures,
      m.mul_law w _ _ _ c.mul-4.ensures,
      m.mul_law w _ _ _ c.mul-3.ensures,
      c.square.ensures w,
      m.mul_law w _ _ _ c.mul-2.ensures,
      m.mul_law w _ _ _ c.mul.ensures,
      m.neg_law w _ _ c.neg.ensures,
      c.g_hs-g.ensures w,
      m.mul_plain_law w _ _ _ c.mul-a.ensures,
      m.plain_lit_law w _ _ c.lit.ensures,
      m.add_law w _ _ _ c.add.ensures,
    )
