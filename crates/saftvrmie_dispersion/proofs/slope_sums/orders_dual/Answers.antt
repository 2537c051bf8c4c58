-- `saftvrmie_dispersion::slope_sums::orders_dual` meets its contract. Assumes nothing.
use Rattle.number.specs.Ans.{◌>>=◌}
use Rattle.number.specs.Answer.{answer_by}
use Rattle.number.proofs.Walk.{via, handed_on}
use Rattle.slope_num.specs.Value.{slope_by}
use Rattle.saftvrmie_dispersion.specs.Terms.{term_orders_of}
use Rattle.saftvrmie_dispersion.specs.Answer.{five_by}
use Rattle.saftvrmie_dispersion.proofs.slope_sums.orders_dual.Goals as goal

pub returns-in_err-s : goal.returns-in_err-s
unfolding term_orders_of ◌>>=◌
returns-in_err-s g c w =
    let of = answer_by (five_by (slope_by g.S.SlopeNum.parts (g.S.Re.DualNum.of w))) in
    rw (
      handed_on _ c.from_residual.ensures,
      ← c.lit.ensures w,
      ← c.x0_of-x0.ensures w,
      ← c.lit-2.ensures w,
      ← c.lit-3.ensures w,
      via of (c.five_dual.ensures w) c.in_err-s.was,
    )

pub returns : goal.returns
unfolding term_orders_of ◌>>=◌
returns g c w =
    let of = answer_by (five_by (slope_by g.S.SlopeNum.parts (g.S.Re.DualNum.of w))) in
    let s = rw (c.x0_of-x0.ensures w, c.lit.ensures w, c.lit-2.ensures w, c.lit-3.ensures w) at (via of (c.five_dual.ensures w) c.in_ok-s.was) in
    rw (
      s,
      c.a2_dual.ensures w,
      c.a1_dual.ensures w,
      c.pref_dual-pref.ensures w,
      c.cube.ensures w,
      c.entered-eps_k.ensures w,
      c.entered-c.ensures w,
    )
