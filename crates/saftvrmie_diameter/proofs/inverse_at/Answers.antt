-- `saftvrmie_diameter::inverse_at` meets its contract. Assumes nothing.
use lib.Ieee.{of_bits}
use Rattle.number.specs.Arith.{decimal}
use Rattle.saftvrmie_diameter.specs.Staged.{inverse_at}
use Rattle.saftvrmie_diameter.proofs.inverse_at.Goals as goal

pub returns : goal.returns
unfolding inverse_at decimal of_bits
returns g c w =
    let m = g.met.D.DualNum in
    rw (
      m.mul_plain_law w _ _ _ c.mul-2.ensures,
      c.recip.ensures w,
      m.add_law w _ _ _ c.add-3.ensures,
      m.add_law w _ _ _ c.add-2.ensures,
      m.mul_plain_law w _ _ _ c.mul.ensures,
      c.position.ensures w,
      m.mul_plain_law w _ _ _ c.mul-width.ensures,
      m.add_plain_law w _ _ _ c.add.ensures,
      m.neg_law w _ _ c.neg.ensures,
      m.plain_lit_law w _ _ c.lit-one.ensures,
      m.plain_lit_law w _ _ c.lit.ensures,
    )
