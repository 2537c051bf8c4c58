-- `saftvrmie_dispersion::chain::gamma` meets its contract. Assumes nothing.
use lib.Ieee.{of_bits}
use Rattle.number.specs.Arith.{decimal}
use Rattle.number.specs.Ans.{◌>>=◌}
use Rattle.number.specs.Answer.{answer_by}
use Rattle.number.proofs.Walk.{via, handed_on}
use Rattle.saftvrmie_dispersion.specs.Chain.{gamma_of}
use Rattle.saftvrmie_dispersion.proofs.chain.gamma.Goals as goal

pub returns-in_err-e : goal.returns-in_err-e
unfolding gamma_of ◌>>=◌
returns-in_err-e g c w = rw (handed_on _ c.from_residual.ensures, via (answer_by (g.D.DualNum.of w)) (c.exp_m1.ensures w) c.in_err-e.was)

pub returns-in_err-t : goal.returns-in_err-t
unfolding gamma_of ◌>>=◌ decimal of_bits
returns-in_err-t g c w =
    let m = g.met.D.DualNum in
    let t = rw (m.mul_law w _ _ _ c.mul-y.ensures, m.sub_law w _ _ _ c.sub.ensures, c.entered-ten.ensures w, c.entered.ensures w) at (via (answer_by (g.D.DualNum.of w)) (c.tanh.ensures w) c.in_err-t.was) in
    rw (handed_on _ c.from_residual-in_err-t.ensures, via (answer_by (g.D.DualNum.of w)) (c.exp_m1.ensures w) c.in_ok-e.was, t)

pub returns-in_err-g : goal.returns-in_err-g
unfolding gamma_of ◌>>=◌ decimal of_bits
returns-in_err-g g c w =
    let m = g.met.D.DualNum in
    let t = rw (m.mul_law w _ _ _ c.mul-y.ensures, m.sub_law w _ _ _ c.sub.ensures, c.entered-ten.ensures w, c.entered.ensures w) at (via (answer_by (g.D.DualNum.of w)) (c.tanh.ensures w) c.in_ok-t.was) in
    let x = rw (m.sub_law w _ _ _ c.sub-x.ensures, m.mul_plain_law w _ _ _ c.mul-2.ensures, c.square.ensures w, m.mul_plain_law w _ _ _ c.mul.ensures, m.neg_law w _ _ c.neg.ensures, m.plain_lit_law w _ _ c.lit.ensures, m.plain_lit_law w _ _ c.lit-2.ensures) at (via (answer_by (g.D.DualNum.of w)) (c.exp.ensures w) c.in_err-g.was) in
    rw (handed_on _ c.from_residual-in_err-g.ensures, via (answer_by (g.D.DualNum.of w)) (c.exp_m1.ensures w) c.in_ok-e.was, t, x)

pub returns : goal.returns
unfolding gamma_of ◌>>=◌ decimal of_bits
returns g c w =
    let m = g.met.D.DualNum in
    let t = rw (m.mul_law w _ _ _ c.mul-y.ensures, m.sub_law w _ _ _ c.sub.ensures, c.entered-ten.ensures w, c.entered.ensures w) at (via (answer_by (g.D.DualNum.of w)) (c.tanh.ensures w) c.in_ok-t.was) in
    let x = rw (m.sub_law w _ _ _ c.sub-x.ensures, m.mul_plain_law w _ _ _ c.mul-2.ensures, c.square.ensures w, m.mul_plain_law w _ _ _ c.mul.ensures, m.neg_law w _ _ c.neg.ensures, m.plain_lit_law w _ _ c.lit.ensures, m.plain_lit_law w _ _ c.lit-2.ensures) at (via (answer_by (g.D.DualNum.of w)) (c.exp.ensures w) c.in_ok-g.was) in
    rw (
      via (answer_by (g.D.DualNum.of w)) (c.exp_m1.ensures w) c.in_ok-e.was,
      t,
      x,
      m.mul_law w _ _ _ c.mul-6.ensures,
      m.mul_law w _ _ _ c.mul-5.ensures,
      m.add_plain_law w _ _ _ c.add.ensures,
      m.plain_lit_law w _ _ c.lit-3.ensures,
      m.neg_law w _ _ c.neg-2.ensures,
      m.mul_law w _ _ _ c.mul-4.ensures,
      c.entered-ten.ensures w,
      m.mul_law w _ _ _ c.mul-3.ensures,
    )
