-- `saftvrmie_dispersion::slope_sums::five_dual` meets its contract. Assumes nothing.
use lib.Ieee.{of_bits}
use mathlib.Core.Path.{◌≡◌, sym, ◌∙◌}
use Prim.Native.Nat.{ℕ}
use Rattle.number.specs.Ans.{refused}
use Rattle.number.specs.Arith.{decimal}
use Rattle.dual.specs.Dual.{duals, plain_d}
use Rattle.saftvrmie_dispersion.proofs.Staged.{five_is, five_refused}
use Rattle.saftvrmie_dispersion.proofs.slope_sums.five_dual.Goals as goal

pub returns-then-not-five_held : goal.returns-then-not-five_held
unfolding decimal of_bits
returns-then-not-five_held g c w =
    let n = g.met.S.Re.DualNum in
    let A = g.S.Re.DualNum.beside w in
    let pow = g.S.Re.DualNum.power_at w c.base-base.result in
    let six : (y : A.Num) (k : ℕ) → pow y ≡ refused k → k ≡ 6 = λ y k h. n.powf_law w (g.S.Re.DualNum.of w c.args.x0) y k (rw (c.base-base.ensures.power w) at h) in
    let held' = c.five_held.ensures w in
    rw (← c.base-base.ensures.power w, five_refused A (duals A) (plain_d A) pow six _ _ _ (sym held' ∙ c.if-not-five_held.true))

pub returns : goal.returns
unfolding decimal of_bits
returns g c w =
    let n = g.met.S.Re.DualNum in
    let A = g.S.Re.DualNum.beside w in
    let pow = g.S.Re.DualNum.power_at w c.base-base.result in
    let six : (y : A.Num) (k : ℕ) → pow y ≡ refused k → k ≡ 6 = λ y k h. n.powf_law w (g.S.Re.DualNum.of w c.args.x0) y k (rw (c.base-base.ensures.power w) at h) in
    let held' = c.five_held.ensures w in
    let f3 = rw (n.plain_mul_law w _ _ _ c.mul.ensures, c.lit-two.ensures w) at (c.a1s_b_ij_dual-3.ensures w) in
    let f4 = rw (n.plain_add_law w _ _ _ c.add.ensures) at (c.a1s_b_ij_dual-4.ensures w) in
    let f5 = rw (n.plain_mul_law w _ _ _ c.mul-2.ensures, c.lit-two.ensures w) at (c.a1s_b_ij_dual-5.ensures w) in
    let all = five_is A (duals A) (plain_d A) pow six _ _ _ _ _ _ _ _ (c.a1s_b_ij_dual.ensures w) (c.a1s_b_ij_dual-2.ensures w) f3 f4 f5 in
    rw (← c.base-base.ensures.power w, all, ← held', c.if-not-five_held.false)
