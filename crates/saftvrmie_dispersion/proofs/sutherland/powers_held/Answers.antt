-- `saftvrmie_dispersion::sutherland::powers_held` meets its contract. Assumes nothing.
use lib.Ieee.{of_bits}
use mathlib.Core.Path.{sym, ◌∙◌}
use Rattle.number.specs.Arith.{decimal}
use Rattle.saftvrmie_dispersion.specs.Staged.{powers_held}
use Rattle.saftvrmie_dispersion.proofs.Staged.{of_each, tested_is}
use Rattle.saftvrmie_dispersion.proofs.sutherland.powers_held.Goals as goal

pub returns : goal.returns
unfolding powers_held decimal of_bits
returns g c w =
    let m = g.met.D.DualNum in
    let x0 = c.args.x0 in
    let e = sym (c.exponent.ensures.power w x0) ∙ m.power_law w x0 _ in
    let e3 = sym (rw (m.plain_sub_law w _ _ _ c.sub.ensures, m.plain_lit_law w _ _ c.lit.ensures) at (c.exponent-2.ensures.power w x0)) ∙ m.power_law w x0 _ in
    let e4 = sym (rw (m.plain_sub_law w _ _ _ c.sub-2.ensures, m.plain_lit_law w _ _ c.lit-2.ensures) at (c.exponent-3.ensures.power w x0)) ∙ m.power_law w x0 _ in
    rw (
      c.base_inside.ensures,
      c.exponent_inside-n.ensures,
      c.exponent_inside-n3.ensures,
      c.exponent_inside-n4.ensures,
      of_each,
      e,
      e3,
      e4,
      tested_is,
      tested_is,
      tested_is,
    )
