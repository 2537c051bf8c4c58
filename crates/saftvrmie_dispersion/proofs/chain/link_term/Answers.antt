-- `saftvrmie_dispersion::chain::link_term` meets its contract. Assumes nothing.
use lib.Ieee.{of_bits}
use Rattle.number.specs.Arith.{decimal}
use Rattle.number.specs.Answer.{answer_by}
use Rattle.number.specs.Ans.{◌>>=◌}
use Rattle.number.proofs.Walk.{via, handed_on}
use Rattle.slope_num.specs.Value.{slope_by}
use Rattle.saftvrmie_dispersion.specs.Chain.{link_of}
use Rattle.saftvrmie_dispersion.proofs.chain.link_term.Goals as goal

pub returns-in_err-g : goal.returns-in_err-g
unfolding link_of slope_by ◌>>=◌ decimal of_bits
returns-in_err-g g c w =
    let n = g.met.S.Re.DualNum in
    let of = answer_by (g.S.Re.DualNum.of w) in
    let q1 = rw (c.x0_of.ensures w, c.lit.ensures w) at (via of (c.g_hs.ensures w) c.in_err-g.was) in
    rw (handed_on _ c.from_residual.ensures, q1)

pub returns-in_err-gamma : goal.returns-in_err-gamma
unfolding link_of slope_by ◌>>=◌ decimal of_bits
returns-in_err-gamma g c w =
    let n = g.met.S.Re.DualNum in
    let of = answer_by (g.S.Re.DualNum.of w) in
    let q1 = rw (c.x0_of.ensures w, c.lit.ensures w) at (via of (c.g_hs.ensures w) c.in_ok-g.was) in
    let q2 = rw (n.mul_law w _ _ _ c.mul-beta_eps.ensures, c.entered-eps_k.ensures w, c.entered.ensures w) at (via of (c.gamma.ensures w) c.in_err-gamma.was) in
    rw (handed_on _ c.from_residual-in_err-gamma.ensures, q1, q2)

pub returns-in_err-ln_g : goal.returns-in_err-ln_g
unfolding link_of slope_by ◌>>=◌ decimal of_bits
returns-in_err-ln_g g c w =
    let n = g.met.S.Re.DualNum in
    let of = answer_by (g.S.Re.DualNum.of w) in
    let q1 = rw (c.x0_of.ensures w, c.lit.ensures w) at (via of (c.g_hs.ensures w) c.in_ok-g.was) in
    let q2 = rw (n.mul_law w _ _ _ c.mul-beta_eps.ensures, c.entered-eps_k.ensures w, c.entered.ensures w) at (via of (c.gamma.ensures w) c.in_ok-gamma.was) in
    let q3 =
    rw (
      n.mul_law w _ _ _ c.mul-beta_eps.ensures,
      c.g1.ensures w,
      n.mul_law w _ _ _ c.mul-g2.ensures,
      n.add_law w _ _ _ c.add.ensures,
      c.g2_mca.ensures w,
      c.re.ensures,
      c.link_pref-pref.ensures w,
      c.cube.ensures w,
      c.entered-eps_k.ensures w,
      c.entered-one.ensures w,
    ) at (via of (c.ln_g_mie.ensures w) c.in_err-ln_g.was) in
    rw (handed_on _ c.from_residual-in_err-ln_g.ensures, q1, q2, q3)

pub returns : goal.returns
unfolding link_of slope_by ◌>>=◌ decimal of_bits
returns g c w =
    let n = g.met.S.Re.DualNum in
    let of = answer_by (g.S.Re.DualNum.of w) in
    let q1 = rw (c.x0_of.ensures w, c.lit.ensures w) at (via of (c.g_hs.ensures w) c.in_ok-g.was) in
    let q2 = rw (n.mul_law w _ _ _ c.mul-beta_eps.ensures, c.entered-eps_k.ensures w, c.entered.ensures w) at (via of (c.gamma.ensures w) c.in_ok-gamma.was) in
    let q3 =
    rw (
      n.mul_law w _ _ _ c.mul-beta_eps.ensures,
      c.g1.ensures w,
      n.mul_law w _ _ _ c.mul-g2.ensures,
      n.add_law w _ _ _ c.add.ensures,
      c.g2_mca.ensures w,
      c.re.ensures,
      c.link_pref-pref.ensures w,
      c.cube.ensures w,
      c.entered-eps_k.ensures w,
      c.entered-one.ensures w,
    ) at (via of (c.ln_g_mie.ensures w) c.in_ok-ln_g.was) in
    rw (q1, q2, q3, n.mul_law w _ _ _ c.mul-2.ensures, n.mul_law w _ _ _ c.mul.ensures, n.sub_law w _ _ _ c.sub.ensures, n.neg_law w _ _ c.neg.ensures, c.entered-one.ensures w)
