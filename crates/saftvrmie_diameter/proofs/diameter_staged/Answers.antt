-- `saftvrmie_diameter::diameter_staged` meets its contract. Assumes nothing.
use borrow.Author.Rules.{rules}
use lib.ListN.{get_or}
use mathlib.Core.Path.{sym, ap, ◌∙◌}
use Rattle.number.specs.Ans.{◌>>=◌}
use Rattle.number.specs.Answer.{answer_by}
use Rattle.number.proofs.Walk.{via, walk_none, walk_next, walk_stop, walk_end, handed_on}
use Rattle.saftvrmie_diameter.specs.Diameter.{diameter_from}
use Rattle.saftvrmie_diameter.proofs.Staged.{turn_is, turn_refused, from_refused}
use Rattle.saftvrmie_diameter.proofs.diameter_staged.Goals as goal

pub returns-then-not-exponent_inside : goal.returns-then-not-exponent_inside
returns-then-not-exponent_inside g c w =
    let D = g.D.DualNum in
    let outside = rw (c.exponent_inside.ensures, c.exponent_inside-2.ensures) at c.if-not-exponent_inside.true in
    from_refused _ _ _ _ _ _ _ (turn_refused (D.beside w) (D.functions w) (D.plain w c.args.la) (D.plain w c.args.lr) (D.of w c.args.c_eps_t) (D.of w c.args.r0) (D.power_at w) (D.power_by w) D.base_in D.exponent_in (D.raised w) (g.met.D.DualNum.power_law w) c.exponents_of-e.result (c.exponents_of-e.ensures w) 0 c.inverse_base.result (c.inverse_base.ensures w ∙ ap (D.functions w).powf (c.inverse_at.ensures w)) outside _)

pub loop-k-init : goal.loop-k-init
loop-k-init g c = (search rules, λ w. walk_none _ _)

pub returns-in_err-d : goal.returns-in_err-d
unfolding diameter_from ◌>>=◌
returns-in_err-d g c w =
    let D = g.D.DualNum in
    let r = c.base-item.result in
    let inside = rw (c.exponent_inside.ensures, c.exponent_inside-2.ensures) at c.if-not-exponent_inside.false in
    let base = c.bases_of.ensures w c.loop-k.k r c.loop-k-test.true in
    let u = c.betas_of.ensures w c.loop-k.k r c.index-betas-k.result c.loop-k-test.true in
    let turn = turn_is (D.beside w) (D.functions w) (D.plain w c.args.la) (D.plain w c.args.lr) (D.of w c.args.c_eps_t) (D.of w c.args.r0) (D.power_at w) (D.power_by w) D.base_in D.exponent_in (D.raised w) (g.met.D.DualNum.power_law w) c.exponents_of-e.result (c.exponents_of-e.ensures w) c.loop-k.k (get_or c.bases_of.new.bases c.loop-k.k r) base inside _ _ _ u (sym (via (answer_by (D.of w)) (c.node.ensures w) c.in_err-d.was)) in
    rw (handed_on _ c.from_residual.ensures, ← walk_stop _ _ 10 _ _ _ c.loop-k-test.true (c.loop-k.invariant.1 w) turn)

pub loop-k-preserved : goal.loop-k-preserved
loop-k-preserved g c = (
  search rules,
  λ w.
      let D = g.D.DualNum in
      let r = c.base-item.result in
      let inside = rw (c.exponent_inside.ensures, c.exponent_inside-2.ensures) at c.if-not-exponent_inside.false in
      let base = c.bases_of.ensures w c.loop-k.k r c.loop-k-test.true in
      let u = c.betas_of.ensures w c.loop-k.k r c.index-betas-k.result c.loop-k-test.true in
      walk_next _ _ _ _ _ (c.loop-k.invariant.1 w) (turn_is (D.beside w) (D.functions w) (D.plain w c.args.la) (D.plain w c.args.lr) (D.of w c.args.c_eps_t) (D.of w c.args.r0) (D.power_at w) (D.power_by w) D.base_in D.exponent_in (D.raised w) (g.met.D.DualNum.power_law w) c.exponents_of-e.result (c.exponents_of-e.ensures w) c.loop-k.k (get_or c.bases_of.new.bases c.loop-k.k r) base inside _ _ _ u (sym (via (answer_by (D.of w)) (c.node.ensures w) c.in_ok-d.was))),
)

pub returns : goal.returns
unfolding diameter_from ◌>>=◌
returns g c w = rw (← walk_end _ _ 10 _ _ c.loop-k.invariant.0 c.loop-k-test.false (c.loop-k.invariant.1 w), g.met.D.DualNum.mul_plain_law w _ _ _ c.mul.ensures)
