-- `saftvrmie_dispersion::sutherland::a1s_b_ij` meets its contract. Assumes nothing.
use lib.Ieee.{of_bits}
use mathlib.Core.Path.{sym, ◌∙◌}
use Rattle.number.specs.Arith.{decimal}
use Rattle.saftvrmie_dispersion.proofs.Shared.{a1s_b_is}
use Rattle.saftvrmie_dispersion.proofs.Staged.{sum_tested}
use Rattle.saftvrmie_dispersion.proofs.sutherland.a1s_b_ij.Goals as goal

pub returns-then-not-base_inside-all : goal.returns-then-not-base_inside-all
unfolding decimal of_bits
returns-then-not-base_inside-all g c w =
    let m = g.met.D.DualNum in
    let D = g.D.DualNum in
    let A = D.beside w in
    let x0 = c.args.x0 in
    let t = rw (c.base_inside.ensures, c.exponent_inside.ensures, c.exponent_inside-2.ensures, c.exponent_inside-3.ensures) at c.if-not-base_inside-all.true in
    let e = sym (c.exponent-n.ensures.power w x0) ∙ m.power_law w x0 _ in
    let e3 = sym (rw (m.plain_sub_law w _ _ _ c.sub.ensures, m.plain_lit_law w _ _ c.lit.ensures) at (c.exponent-n3.ensures.power w x0)) ∙ m.power_law w x0 _ in
    let e4 = sym (rw (m.plain_sub_law w _ _ _ c.sub-2.ensures, m.plain_lit_law w _ _ c.lit-2.ensures) at (c.exponent-n4.ensures.power w x0)) ∙ m.power_law w x0 _ in
    rw (sum_tested A A (λ x. x) (D.power_at w x0) _ (D.plain w c.args.lambda) (D.raised w x0 c.exponent-n.result) (D.raised w x0 c.exponent-n3.result) (D.raised w x0 c.exponent-n4.result) (D.base_in x0) (D.exponent_in c.exponent-n.result) (D.exponent_in c.exponent-n3.result) (D.exponent_in c.exponent-n4.result) e e3 e4, t)

pub returns : goal.returns
unfolding decimal of_bits
returns g c w =
    let m = g.met.D.DualNum in
    let D = g.D.DualNum in
    let A = D.beside w in
    let x0 = c.args.x0 in
    let t = rw (c.base_inside.ensures, c.exponent_inside.ensures, c.exponent_inside-2.ensures, c.exponent_inside-3.ensures) at c.if-not-base_inside-all.false in
    let e = sym (c.exponent-n.ensures.power w x0) ∙ m.power_law w x0 _ in
    let e3 = sym (rw (m.plain_sub_law w _ _ _ c.sub.ensures, m.plain_lit_law w _ _ c.lit.ensures) at (c.exponent-n3.ensures.power w x0)) ∙ m.power_law w x0 _ in
    let e4 = sym (rw (m.plain_sub_law w _ _ _ c.sub-2.ensures, m.plain_lit_law w _ _ c.lit-2.ensures) at (c.exponent-n4.ensures.power w x0)) ∙ m.power_law w x0 _ in
    rw (
      sum_tested A A (λ x. x) (D.power_at w x0) _ (D.plain w c.args.lambda) (D.raised w x0 c.exponent-n.result) (D.raised w x0 c.exponent-n3.result) (D.raised w x0 c.exponent-n4.result) (D.base_in x0) (D.exponent_in c.exponent-n.result) (D.exponent_in c.exponent-n3.result) (D.exponent_in c.exponent-n4.result) e e3 e4,
      t,
      a1s_b_is A A (λ x. x),
      c.a1s_b_of.ensures w,
      c.lambda_of.ensures w,
      c.raise_inside-p.ensures w,
      c.raise_inside-p3.ensures w,
      c.raise_inside-p4.ensures w,
    )
