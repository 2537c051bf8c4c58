-- `saftvrqmie_dispersion::alpha::alpha_q2` meets its contract. Assumes nothing.
use lib.Ieee.{of_bits, neg}
use Rattle.number.specs.Arith.{decimal}
use Rattle.saftvrqmie_dispersion.specs.Alpha.{alpha_q2}
use Rattle.saftvrqmie_dispersion.proofs.alpha.alpha_q2.Goals as goal

pub returns : goal.returns
unfolding alpha_q2 decimal of_bits neg
returns g c w =
    let m = g.met.D.DualNum in
    rw (
      m.mul_plain_law w _ _ _ c.mul-5.ensures,
      m.mul_plain_law w _ _ _ c.mul-4.ensures,
      m.plain_sub_law w _ _ _ c.sub.ensures,
      m.mul_plain_law w _ _ _ c.mul-3.ensures,
      m.mul_plain_law w _ _ _ c.mul-2.ensures,
      m.plain_add_law w _ _ _ c.add.ensures,
      m.mul_law w _ _ _ c.mul.ensures,
      c.powi.ensures w,
      m.plain_lit_law w _ _ c.lit-half.ensures,
      m.plain_lit_law w _ _ c.lit-two.ensures,
      m.plain_lit_law w _ _ c.lit-one.ensures,
    )
