-- `saftvrmie_dispersion::slope_sums::a1s_b_ij_dual` meets its contract. Assumes nothing.
use lib.Ieee.{of_bits}
use mathlib.Core.Path.{sym, ◌∙◌}
use Rattle.number.specs.Arith.{decimal}
use Rattle.dual.specs.Dual.{duals, plain_d}
use Rattle.saftvrmie_dispersion.proofs.Shared.{a1s_b_is}
use Rattle.saftvrmie_dispersion.proofs.Staged.{value_is}
use Rattle.saftvrmie_dispersion.proofs.slope_sums.a1s_b_ij_dual.Goals as goal

pub returns : goal.returns
unfolding decimal of_bits
returns g c w u h =
    let n = g.met.S.Re.DualNum in
    let A = g.S.Re.DualNum.beside w in
    let x0 = c.args.x0 in
    let e = sym (c.exponent.ensures.power w x0) ∙ n.power_law w x0 _ in
    let e3 = sym (rw (n.plain_sub_law w _ _ _ c.sub.ensures, c.lit.ensures w) at (c.exponent-n3.ensures.power w x0)) ∙ n.power_law w x0 _ in
    let e4 = sym (rw (n.plain_sub_law w _ _ _ c.sub-2.ensures, c.lit-2.ensures w) at (c.exponent-n4.ensures.power w x0)) ∙ n.power_law w x0 _ in
    rw (
      c.a1s_b_of_dual.ensures w,
      c.lambda_in.ensures w,
      c.raise_inside-p.ensures w,
      c.raise_inside-p3.ensures w,
      c.raise_inside-p4.ensures w,
      ← a1s_b_is A (duals A) (plain_d A),
    )
    (value_is A (duals A) (plain_d A) (g.S.Re.DualNum.power_at w x0) _ _ _ _ _ _ _ _ e e3 e4 u h)
