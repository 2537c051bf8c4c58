-- `saftvrmie_dispersion::orders::a3` meets its contract. Assumes nothing.
use Rattle.number.specs.Ans.{◌>>=◌}
use Rattle.number.specs.Answer.{answer_by}
use Rattle.number.proofs.Walk.{via, handed_on}
use Rattle.saftvrmie_dispersion.specs.Shared.{a3_by}
use Rattle.saftvrmie_dispersion.proofs.orders.a3.Goals as goal

pub returns-in_err-e : goal.returns-in_err-e
unfolding a3_by ◌>>=◌
returns-in_err-e g c w =
    let m = g.met.D.DualNum in
    let q = rw (m.mul_law w _ _ _ c.mul-x.ensures, m.add_plain_law w _ _ _ c.add.ensures, m.mul_plain_law w _ _ _ c.mul.ensures) at (via (answer_by (g.D.DualNum.of w)) (c.exp.ensures w) c.in_err-e.was) in
    rw (handed_on _ c.from_residual.ensures, q)

pub returns : goal.returns
unfolding a3_by ◌>>=◌
returns g c w =
    let m = g.met.D.DualNum in
    let q = rw (m.mul_law w _ _ _ c.mul-x.ensures, m.add_plain_law w _ _ _ c.add.ensures, m.mul_plain_law w _ _ _ c.mul.ensures) at (via (answer_by (g.D.DualNum.of w)) (c.exp.ensures w) c.in_ok-e.was) in
    rw (
      q,
      m.mul_plain_law w _ _ _ c.mul-4.ensures,
      m.plain_pow_law w _ _ 3 c.cube.ensures,
      m.mul_law w _ _ _ c.mul-3.ensures,
      m.mul_plain_law w _ _ _ c.mul-2.ensures,
      m.neg_law w _ _ c.neg.ensures,
    )
