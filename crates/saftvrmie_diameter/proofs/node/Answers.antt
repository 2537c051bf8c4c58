-- `saftvrmie_diameter::node` meets its contract. Assumes nothing.
use lib.Ieee.{of_bits}
use Rattle.number.specs.Arith.{decimal}
use Rattle.number.specs.Ans.{demand, ◌>>=◌}
use Rattle.number.specs.Answer.{answer_by}
use Rattle.number.proofs.Walk.{told, via, handed_on}
use Rattle.saftvrmie_diameter.specs.Staged.{node_at}
use Rattle.saftvrmie_diameter.proofs.node.Goals as goal

pub returns-then-not-base_inside : goal.returns-then-not-base_inside
unfolding node_at demand ◌>>=◌
returns-then-not-base_inside g c w = rw (told c.base_inside.ensures c.if-not-base_inside.true)

pub returns-in_err-e : goal.returns-in_err-e
unfolding node_at demand ◌>>=◌
returns-in_err-e g c w =
    let m = g.met.D.DualNum in
    rw (
      handed_on _ c.from_residual.ensures,
      told c.base_inside.ensures c.if-not-base_inside.false,
      ← m.neg_law w _ _ c.neg.ensures,
      via (answer_by (g.D.DualNum.of w)) (c.exp_m1.ensures w) c.in_err-e.was,
    )

pub returns : goal.returns
unfolding node_at demand ◌>>=◌ decimal of_bits
returns g c w =
    let m = g.met.D.DualNum in
    rw (
      told c.base_inside.ensures c.if-not-base_inside.false,
      ← m.neg_law w _ _ c.neg.ensures,
      via (answer_by (g.D.DualNum.of w)) (c.exp_m1.ensures w) c.in_ok-e.was,
      m.add_law w _ _ _ c.add-2.ensures,
      m.mul_plain_law w _ _ _ c.mul-2.ensures,
      m.mul_law w _ _ _ c.mul.ensures,
      m.neg_law w _ _ c.neg-3.ensures,
      m.mul_plain_law w _ _ _ c.mul-width.ensures,
      m.add_plain_law w _ _ _ c.add.ensures,
      m.neg_law w _ _ c.neg-2.ensures,
      m.plain_lit_law w _ _ c.lit.ensures,
      m.plain_lit_law w _ _ c.lit-2.ensures,
      c.weight.ensures w,
    )
