-- `saftvrmie_dispersion::sutherland::five_sums` meets its contract. Assumes nothing.
use lib.Ieee.{of_bits}
use Rattle.number.specs.Ans.{◌>>=◌}
use Rattle.number.specs.Answer.{answer_by}
use Rattle.number.specs.Arith.{decimal}
use Rattle.number.proofs.Walk.{via, handed_on}
use Rattle.saftvrmie_dispersion.specs.Terms.{five}
use Rattle.saftvrmie_dispersion.proofs.sutherland.five_sums.Goals as goal

pub returns-in_err-at_la : goal.returns-in_err-at_la
unfolding five ◌>>=◌ decimal of_bits
returns-in_err-at_la g c w =
    let m = g.met.D.DualNum in
    let of = answer_by (g.D.DualNum.of w) in
    let q1 = via of (c.a1s_b_ij.ensures w) c.in_err-at_la.was in
    rw (handed_on _ c.from_residual.ensures, ← c.base-base.ensures.power w, q1)

pub returns-in_err-at_lr : goal.returns-in_err-at_lr
unfolding five ◌>>=◌ decimal of_bits
returns-in_err-at_lr g c w =
    let m = g.met.D.DualNum in
    let of = answer_by (g.D.DualNum.of w) in
    let q1 = via of (c.a1s_b_ij.ensures w) c.in_ok-at_la.was in
    let q2 = via of (c.a1s_b_ij-2.ensures w) c.in_err-at_lr.was in
    rw (handed_on _ c.from_residual-in_err-at_lr.ensures, ← c.base-base.ensures.power w, q1, q2)

pub returns-in_err-at_2la : goal.returns-in_err-at_2la
unfolding five ◌>>=◌ decimal of_bits
returns-in_err-at_2la g c w =
    let m = g.met.D.DualNum in
    let of = answer_by (g.D.DualNum.of w) in
    let q1 = via of (c.a1s_b_ij.ensures w) c.in_ok-at_la.was in
    let q2 = via of (c.a1s_b_ij-2.ensures w) c.in_ok-at_lr.was in
    let q3 = rw (m.plain_mul_law w _ _ _ c.mul.ensures, m.plain_lit_law w _ _ c.lit-two.ensures) at (via of (c.a1s_b_ij-3.ensures w) c.in_err-at_2la.was) in
    rw (handed_on _ c.from_residual-in_err-at_2la.ensures, ← c.base-base.ensures.power w, q1, q2, q3)

pub returns-in_err-at_lalr : goal.returns-in_err-at_lalr
unfolding five ◌>>=◌ decimal of_bits
returns-in_err-at_lalr g c w =
    let m = g.met.D.DualNum in
    let of = answer_by (g.D.DualNum.of w) in
    let q1 = via of (c.a1s_b_ij.ensures w) c.in_ok-at_la.was in
    let q2 = via of (c.a1s_b_ij-2.ensures w) c.in_ok-at_lr.was in
    let q3 = rw (m.plain_mul_law w _ _ _ c.mul.ensures, m.plain_lit_law w _ _ c.lit-two.ensures) at (via of (c.a1s_b_ij-3.ensures w) c.in_ok-at_2la.was) in
    let q4 = rw (m.plain_add_law w _ _ _ c.add.ensures) at (via of (c.a1s_b_ij-4.ensures w) c.in_err-at_lalr.was) in
    rw (handed_on _ c.from_residual-in_err-at_lalr.ensures, ← c.base-base.ensures.power w, q1, q2, q3, q4)

pub returns-in_err-at_2lr : goal.returns-in_err-at_2lr
unfolding five ◌>>=◌ decimal of_bits
returns-in_err-at_2lr g c w =
    let m = g.met.D.DualNum in
    let of = answer_by (g.D.DualNum.of w) in
    let q1 = via of (c.a1s_b_ij.ensures w) c.in_ok-at_la.was in
    let q2 = via of (c.a1s_b_ij-2.ensures w) c.in_ok-at_lr.was in
    let q3 = rw (m.plain_mul_law w _ _ _ c.mul.ensures, m.plain_lit_law w _ _ c.lit-two.ensures) at (via of (c.a1s_b_ij-3.ensures w) c.in_ok-at_2la.was) in
    let q4 = rw (m.plain_add_law w _ _ _ c.add.ensures) at (via of (c.a1s_b_ij-4.ensures w) c.in_ok-at_lalr.was) in
    let q5 = rw (m.plain_mul_law w _ _ _ c.mul-2.ensures, m.plain_lit_law w _ _ c.lit-two.ensures) at (via of (c.a1s_b_ij-5.ensures w) c.in_err-at_2lr.was) in
    rw (handed_on _ c.from_residual-in_err-at_2lr.ensures, ← c.base-base.ensures.power w, q1, q2, q3, q4, q5)

pub returns : goal.returns
unfolding five ◌>>=◌ decimal of_bits
returns g c w =
    let m = g.met.D.DualNum in
    let of = answer_by (g.D.DualNum.of w) in
    let q1 = via of (c.a1s_b_ij.ensures w) c.in_ok-at_la.was in
    let q2 = via of (c.a1s_b_ij-2.ensures w) c.in_ok-at_lr.was in
    let q3 = rw (m.plain_mul_law w _ _ _ c.mul.ensures, m.plain_lit_law w _ _ c.lit-two.ensures) at (via of (c.a1s_b_ij-3.ensures w) c.in_ok-at_2la.was) in
    let q4 = rw (m.plain_add_law w _ _ _ c.add.ensures) at (via of (c.a1s_b_ij-4.ensures w) c.in_ok-at_lalr.was) in
    let q5 = rw (m.plain_mul_law w _ _ _ c.mul-2.ensures, m.plain_lit_law w _ _ c.lit-two.ensures) at (via of (c.a1s_b_ij-5.ensures w) c.in_ok-at_2lr.was) in
    rw (← c.base-base.ensures.power w, q1, q2, q3, q4, q5)
