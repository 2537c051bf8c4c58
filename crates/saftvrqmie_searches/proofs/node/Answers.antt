-- `saftvrqmie_searches::node` meets its contract. Assumes nothing.
use mathlib.Core.Bool.{false}
use lib.Ieee.{of_bits}
use Rattle.number.specs.Arith.{decimal}
use Rattle.number.specs.Answer.{answer_by}
use Rattle.number.proofs.Walk.{via, handed_on}
use Rattle.saftvrqmie_searches.proofs.Nodes.{node_outside, node_no_exp, node_value}
use Rattle.saftvrqmie_searches.proofs.node.Goals as goal

pub returns-in_err-u : goal.returns-in_err-u
unfolding decimal of_bits
returns-in_err-u g c = λ U h.
    let m = g.met.D.DualNum in
    let of = answer_by (g.D.DualNum.of false) in
    let width = rw (m.sub_law false _ _ _ c.sub.ensures, m.plain_lit_law false _ _ c.lit.ensures) at (m.mul_plain_law false _ _ _ c.mul-width.ensures) in
    let r = rw (m.add_law false _ _ _ c.add.ensures, m.mul_plain_law false _ _ _ c.mul.ensures, width) at (m.add_law false _ _ _ c.add-r.ensures) in
    rw (handed_on _ c.from_residual.ensures) (node_outside _ _ (g.met.D.WithoutEnds.after_law false) _ _ _ _ _ _ _ (c.abscissa.ensures false) _ r _ (via of (h _ _ (c.u_at.ensures.formula false) (c.u_at.ensures.staged false)) c.in_err-u.was))

pub returns-in_err-e : goal.returns-in_err-e
unfolding decimal of_bits
returns-in_err-e g c = λ U h.
    let m = g.met.D.DualNum in
    let of = answer_by (g.D.DualNum.of false) in
    let width = rw (m.sub_law false _ _ _ c.sub.ensures, m.plain_lit_law false _ _ c.lit.ensures) at (m.mul_plain_law false _ _ _ c.mul-width.ensures) in
    let r = rw (m.add_law false _ _ _ c.add.ensures, m.mul_plain_law false _ _ _ c.mul.ensures, width) at (m.add_law false _ _ _ c.add-r.ensures) in
    let u = via of (h _ _ (c.u_at.ensures.formula false) (c.u_at.ensures.staged false)) c.in_ok-u.was in
    let q = rw (m.neg_law false _ _ c.neg.ensures) at (m.div_law false _ _ _ c.div.ensures) in
    rw (handed_on _ c.from_residual-in_err-e.ensures) (node_no_exp _ _ (g.met.D.WithoutEnds.after_law false) _ _ _ _ _ _ _ (c.abscissa.ensures false) _ r _ _ u q _ (via of (c.exp.ensures false) c.in_err-e.was))

pub returns : goal.returns
unfolding decimal of_bits
returns g c = λ U h.
    let m = g.met.D.DualNum in
    let of = answer_by (g.D.DualNum.of false) in
    let width = rw (m.sub_law false _ _ _ c.sub.ensures, m.plain_lit_law false _ _ c.lit.ensures) at (m.mul_plain_law false _ _ _ c.mul-width.ensures) in
    let r = rw (m.add_law false _ _ _ c.add.ensures, m.mul_plain_law false _ _ _ c.mul.ensures, width) at (m.add_law false _ _ _ c.add-r.ensures) in
    let u = via of (h _ _ (c.u_at.ensures.formula false) (c.u_at.ensures.staged false)) c.in_ok-u.was in
    let q = rw (m.neg_law false _ _ c.neg.ensures) at (m.div_law false _ _ _ c.div.ensures) in
    let f_u = rw (m.neg_law false _ _ c.neg-2.ensures, m.plain_lit_law false _ _ c.lit-2.ensures) at (m.add_plain_law false _ _ _ c.add-2.ensures) in
    let part = rw (m.mul_law false _ _ _ c.mul-2.ensures, width, f_u) at (m.mul_plain_law false _ _ _ c.mul-3.ensures) in
    let v = rw part at (m.add_law false _ _ _ c.add-3.ensures) in
    node_value _ _ (g.met.D.WithoutEnds.after_law false) _ _ _ _ _ _ _ (c.abscissa.ensures false) _ r _ _ u q _ _ _ (via of (c.exp.ensures false) c.in_ok-e.was) (c.weight.ensures false) v
