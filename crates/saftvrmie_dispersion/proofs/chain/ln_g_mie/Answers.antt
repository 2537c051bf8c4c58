-- `saftvrmie_dispersion::chain::ln_g_mie` meets its contract. Assumes nothing.
use Rattle.number.specs.Ans.{◌>>=◌}
use Rattle.number.specs.Answer.{answer_by}
use Rattle.number.proofs.Walk.{via, handed_on}
use Rattle.saftvrmie_dispersion.specs.Chain.{ln_g_mie}
use Rattle.saftvrmie_dispersion.proofs.chain.ln_g_mie.Goals as goal

pub returns-in_err-l : goal.returns-in_err-l
unfolding ln_g_mie ◌>>=◌
returns-in_err-l g c w = rw (handed_on _ c.from_residual.ensures, via (answer_by (g.D.DualNum.of w)) (c.ln.ensures w) c.in_err-l.was)

pub returns : goal.returns
unfolding ln_g_mie ◌>>=◌
returns g c w =
    let m = g.met.D.DualNum in
    rw (
      via (answer_by (g.D.DualNum.of w)) (c.ln.ensures w) c.in_ok-l.was,
      m.add_law w _ _ _ c.add-2.ensures,
      m.div_law w _ _ _ c.div.ensures,
      m.add_law w _ _ _ c.add.ensures,
      m.mul_law w _ _ _ c.mul-2.ensures,
      c.square.ensures w,
      m.mul_law w _ _ _ c.mul.ensures,
    )
