-- `saftvrmie_dispersion::sutherland::five_held` meets its contract. Assumes nothing.
use lib.Ieee.{of_bits}
use Rattle.number.specs.Arith.{decimal}
use Rattle.saftvrmie_dispersion.specs.Staged.{five_held}
use Rattle.saftvrmie_dispersion.proofs.sutherland.five_held.Goals as goal

pub returns : goal.returns
unfolding five_held decimal of_bits
returns g c w =
    let m = g.met.D.DualNum in
    rw (
      c.powers_held.ensures w,
      c.powers_held-2.ensures w,
      c.powers_held-at_2la.ensures w,
      c.powers_held-at_lalr.ensures w,
      c.powers_held-at_2lr.ensures w,
      m.plain_mul_law w _ _ _ c.mul.ensures,
      m.plain_add_law w _ _ _ c.add.ensures,
      m.plain_mul_law w _ _ _ c.mul-2.ensures,
      m.plain_lit_law w _ _ c.lit-two.ensures,
    )
