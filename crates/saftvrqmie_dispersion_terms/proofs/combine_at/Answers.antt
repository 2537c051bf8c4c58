-- `saftvrqmie_dispersion_terms::combine_at` meets its contract. Assumes nothing.
use lib.Ieee.{of_bits}
use Rattle.number.specs.Ans.{◌>>=◌}
use Rattle.number.specs.Answer.{answer_by}
use Rattle.number.specs.Arith.{decimal}
use Rattle.number.proofs.Walk.{via, handed_on}
use Rattle.saftvrqmie_dispersion_terms.specs.Terms.{sutherland_of, sutherland, ilambda_of, ilambda, jlambda_of, jlambda, b, combine, terms_by}
use Rattle.saftvrqmie_dispersion_terms.proofs.combine_at.Goals as goal

pub returns-in_err-p : goal.returns-in_err-p
unfolding terms_by combine sutherland b ilambda jlambda ◌>>=◌ decimal of_bits
returns-in_err-p g c w =
    let m = g.met.D.DualNum in
    rw (handed_on _ c.from_residual.ensures, via (answer_by (g.D.DualNum.of w)) (c.powf_at.ensures w) c.in_err-p.was)

pub returns-in_err-p3 : goal.returns-in_err-p3
unfolding terms_by combine sutherland b ilambda jlambda ◌>>=◌ decimal of_bits
returns-in_err-p3 g c w =
    let m = g.met.D.DualNum in
    let of = answer_by (g.D.DualNum.of w) in
    let l3 = rw (m.plain_sub_law w _ _ _ c.sub.ensures, m.plain_lit_law w _ _ c.lit.ensures) at (via of (c.powf_at-2.ensures w) c.in_err-p3.was) in
    rw (handed_on _ c.from_residual-in_err-p3.ensures, via of (c.powf_at.ensures w) c.in_ok-p.was, l3)

pub returns-in_err-p4 : goal.returns-in_err-p4
unfolding terms_by combine sutherland b ilambda jlambda ◌>>=◌ decimal of_bits
returns-in_err-p4 g c w =
    let m = g.met.D.DualNum in
    let of = answer_by (g.D.DualNum.of w) in
    let l3 = rw (m.plain_sub_law w _ _ _ c.sub.ensures, m.plain_lit_law w _ _ c.lit.ensures) at (via of (c.powf_at-2.ensures w) c.in_ok-p3.was) in
    let l4 = rw (m.plain_sub_law w _ _ _ c.sub-2.ensures, m.plain_lit_law w _ _ c.lit-2.ensures) at (via of (c.powf_at-3.ensures w) c.in_err-p4.was) in
    rw (handed_on _ c.from_residual-in_err-p4.ensures, via of (c.powf_at.ensures w) c.in_ok-p.was, l3, l4)

pub returns : goal.returns
unfolding terms_by combine sutherland sutherland_of b ilambda ilambda_of jlambda jlambda_of ◌>>=◌ decimal of_bits
returns g c w =
    let m = g.met.D.DualNum in
    let of = answer_by (g.D.DualNum.of w) in
    let l3 = rw (m.plain_sub_law w _ _ _ c.sub.ensures, m.plain_lit_law w _ _ c.lit.ensures) at (via of (c.powf_at-2.ensures w) c.in_ok-p3.was) in
    let l4 = rw (m.plain_sub_law w _ _ _ c.sub-2.ensures, m.plain_lit_law w _ _ c.lit-2.ensures) at (via of (c.powf_at-3.ensures w) c.in_ok-p4.was) in
    rw (
      m.add_law w _ _ _ c.add.ensures,
      c.b_of-int_b.ensures w,
      c.jlambda_of-j.ensures w,
      c.ilambda_of-i.ensures w,
      c.sutherland_of-int_as.ensures w,
      c.eta_eff.ensures w,
      m.plain_sub_law w _ _ _ c.sub-l4.ensures,
      m.plain_lit_law w _ _ c.lit-4.ensures,
      m.plain_sub_law w _ _ _ c.sub-l3.ensures,
      m.plain_lit_law w _ _ c.lit-3.ensures,
      via of (c.powf_at.ensures w) c.in_ok-p.was,
      l3,
      l4,
    )
