-- `saftvrmie_dispersion::orders::pair_terms` meets its contract. Assumes nothing.
use Rattle.number.specs.Ans.{◌>>=◌}
use Rattle.number.specs.Answer.{answer_by}
use Rattle.number.proofs.Walk.{via, handed_on}
use Rattle.saftvrmie_dispersion.specs.Terms.{term_orders_of, terms_of}
use Rattle.saftvrmie_dispersion.specs.Answer.{five_by}
use Rattle.saftvrmie_dispersion.proofs.Shared.{xi_is, a3_is}
use Rattle.saftvrmie_dispersion.proofs.orders.pair_terms.Goals as goal

pub returns-in_err-s : goal.returns-in_err-s
unfolding terms_of term_orders_of ◌>>=◌
returns-in_err-s g c w =
    let m = g.met.D.DualNum in
    let of = g.D.DualNum.of w in
    let five = rw (c.x0_of-x0.ensures w, m.plain_lit_law w _ _ c.lit.ensures, m.plain_lit_law w _ _ c.lit-2.ensures, m.plain_lit_law w _ _ c.lit-3.ensures) at (via (answer_by (five_by of)) (c.five_sums.ensures w) c.in_err-s.was) in
    rw (handed_on _ c.from_residual.ensures, five)

pub returns-in_err-third : goal.returns-in_err-third
unfolding terms_of term_orders_of ◌>>=◌
returns-in_err-third g c w =
    let m = g.met.D.DualNum in
    let of = g.D.DualNum.of w in
    let five = rw (c.x0_of-x0.ensures w, m.plain_lit_law w _ _ c.lit.ensures, m.plain_lit_law w _ _ c.lit-2.ensures, m.plain_lit_law w _ _ c.lit-3.ensures) at (via (answer_by (five_by of)) (c.five_sums.ensures w) c.in_ok-s.was) in
    let third = rw (c.six_of-of.ensures w, m.plain_lit_law w _ _ c.lit-eps_k.ensures) at (via (answer_by of) (c.a3.ensures w) c.in_err-third.was) in
    rw (handed_on _ c.from_residual-in_err-third.ensures, five, a3_is, third)

pub returns : goal.returns
unfolding terms_of term_orders_of ◌>>=◌
returns g c w =
    let m = g.met.D.DualNum in
    let of = g.D.DualNum.of w in
    let five = rw (c.x0_of-x0.ensures w, m.plain_lit_law w _ _ c.lit.ensures, m.plain_lit_law w _ _ c.lit-2.ensures, m.plain_lit_law w _ _ c.lit-3.ensures) at (via (answer_by (five_by of)) (c.five_sums.ensures w) c.in_ok-s.was) in
    let third = rw (c.six_of-of.ensures w, m.plain_lit_law w _ _ c.lit-eps_k.ensures) at (via (answer_by of) (c.a3.ensures w) c.in_ok-third.was) in
    rw (
      five,
      a3_is,
      third,
      xi_is,
      c.a1.ensures w,
      c.a2.ensures w,
      c.xi.ensures w,
      c.pref-factor.ensures w,
      c.cube.ensures w,
      c.six_of-of.ensures w,
      m.plain_lit_law w _ _ c.lit-eps_k.ensures,
      m.plain_lit_law w _ _ c.lit-c.ensures,
    )
