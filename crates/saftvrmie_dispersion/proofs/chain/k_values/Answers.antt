-- `saftvrmie_dispersion::chain::k_values` meets its contract. Assumes nothing.
use lib.Ieee.{of_bits}
use Rattle.number.specs.Arith.{decimal}
use Rattle.number.specs.Ans.{◌>>=◌}
use Rattle.number.specs.Answer.{answer_by}
use Rattle.number.proofs.Walk.{via, handed_on}
use Rattle.saftvrmie_dispersion.specs.Chain.{k_of}
use Rattle.saftvrmie_dispersion.proofs.chain.k_values.Goals as goal

pub returns-in_err-l : goal.returns-in_err-l
unfolding k_of ◌>>=◌ decimal of_bits
returns-in_err-l g c w =
    let m = g.met.D.DualNum in
    let q = rw (m.add_plain_law w _ _ _ c.add-factor.ensures, m.plain_lit_law w _ _ c.lit.ensures, m.neg_law w _ _ c.neg.ensures) at (via (answer_by (g.D.DualNum.of w)) (c.ln.ensures w) c.in_err-l.was) in
    rw (handed_on _ c.from_residual.ensures, q)

pub returns : goal.returns
unfolding k_of ◌>>=◌ decimal of_bits
returns g c w =
    let m = g.met.D.DualNum in
    rw (
      ← m.mul_law w _ _ _ c.mul-z2.ensures,
      ← m.mul_law w _ _ _ c.mul-z3.ensures,
      ← c.k0_sum.ensures w,
      ← m.neg_law w _ _ c.neg.ensures,
      ← m.plain_lit_law w _ _ c.lit.ensures,
      ← m.add_plain_law w _ _ _ c.add-factor.ensures,
      via (answer_by (g.D.DualNum.of w)) (c.ln.ensures w) c.in_ok-l.was,
      m.plain_lit_law w _ _ c.lit.ensures,
      ← c.cube.ensures w,
      ← c.recip-frac.ensures w,
      ← c.k0.ensures w,
      ← c.k1.ensures w,
      ← c.k2.ensures w,
      ← c.k3.ensures w,
    )
