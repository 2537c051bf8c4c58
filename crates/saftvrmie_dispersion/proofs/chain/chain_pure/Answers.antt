-- `saftvrmie_dispersion::chain::chain_pure` meets its contract. Assumes nothing.
use Rattle.number.specs.Answer.{answer_by}
use Rattle.number.specs.Ans.{◌>>=◌}
use Rattle.number.proofs.Walk.{via, handed_on}
use Rattle.slope_num.specs.Value.{slope_by}
use Rattle.saftvrmie_dispersion.specs.Answer.{orders_by}
use Rattle.saftvrmie_dispersion.specs.Chain.{chain_pure}
use Rattle.saftvrmie_dispersion.proofs.Shared.{xi_is, a3_is}
use Rattle.saftvrmie_dispersion.proofs.chain.chain_pure.Goals as goal

pub returns-in_err-o : goal.returns-in_err-o
unfolding chain_pure slope_by ◌>>=◌
returns-in_err-o g c w =
    let A = g.S.Re.DualNum.beside w in
    let of = answer_by (g.S.Re.DualNum.of w) in
    let q1 = via (answer_by (orders_by (slope_by g.S.SlopeNum.parts (g.S.Re.DualNum.of w)))) (c.orders_dual.ensures w) c.in_err-o.was in
    rw (handed_on _ c.from_residual.ensures, q1)

pub returns-in_err-a3 : goal.returns-in_err-a3
unfolding chain_pure slope_by ◌>>=◌
returns-in_err-a3 g c w =
    let A = g.S.Re.DualNum.beside w in
    let of = answer_by (g.S.Re.DualNum.of w) in
    let q1 = via (answer_by (orders_by (slope_by g.S.SlopeNum.parts (g.S.Re.DualNum.of w)))) (c.orders_dual.ensures w) c.in_ok-o.was in
    let q2 = rw (c.six_of-six.ensures w, c.lit.ensures w) at (via of (c.a3.ensures w) c.in_err-a3.was) in
    rw (handed_on _ c.from_residual-in_err-a3.ensures, q1, a3_is A, q2)

pub returns-in_err-l : goal.returns-in_err-l
unfolding chain_pure slope_by ◌>>=◌
returns-in_err-l g c w =
    let A = g.S.Re.DualNum.beside w in
    let of = answer_by (g.S.Re.DualNum.of w) in
    let q1 = via (answer_by (orders_by (slope_by g.S.SlopeNum.parts (g.S.Re.DualNum.of w)))) (c.orders_dual.ensures w) c.in_ok-o.was in
    let q2 = rw (c.six_of-six.ensures w, c.lit.ensures w) at (via of (c.a3.ensures w) c.in_ok-a3.was) in
    let q3 = via of (c.link_term.ensures w) c.in_err-l.was in
    rw (handed_on _ c.from_residual-in_err-l.ensures, q1, a3_is A, q2, q3)

pub returns : goal.returns
unfolding chain_pure slope_by ◌>>=◌
returns g c w =
    let A = g.S.Re.DualNum.beside w in
    let of = answer_by (g.S.Re.DualNum.of w) in
    let q1 = via (answer_by (orders_by (slope_by g.S.SlopeNum.parts (g.S.Re.DualNum.of w)))) (c.orders_dual.ensures w) c.in_ok-o.was in
    let q2 = rw (c.six_of-six.ensures w, c.lit.ensures w) at (via of (c.a3.ensures w) c.in_ok-a3.was) in
    let q3 = via of (c.link_term.ensures w) c.in_ok-l.was in
    rw (q1, a3_is A, xi_is A, q2, q3, c.add_link.ensures w, c.add_pure-t.ensures w, c.re-2.ensures, c.re.ensures, c.xi.ensures w, c.six_of-six.ensures w)
