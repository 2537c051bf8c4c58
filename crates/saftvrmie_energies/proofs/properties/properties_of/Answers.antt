-- `saftvrmie_energies::properties::properties_of` meets its contract. Assumes nothing.
use borrow.Author.Rules.{rules}
use Rattle.number.specs.Ans.{◌>>=◌}
use Rattle.number.specs.Answer.{answer_by}
use Rattle.number.proofs.Walk.{via, handed_on}
use Rattle.saftvrmie_dispersion.specs.Answer.{k_by}
use Rattle.saftvrmie_energies.specs.Properties.{d3_ij, s3_ij, properties}
use Rattle.saftvrmie_energies.specs.Reads.{entries, pairs}
use Rattle.saftvrmie_energies.proofs.properties.properties_of.Goals as goal

pub returns-in_err-k : goal.returns-in_err-k
unfolding properties ◌>>=◌
returns-in_err-k g c w =
    let m = g.met.D.DualNum in
    let A = g.D.DualNum.beside w in
    rw (
      handed_on _ c.from_residual.ensures,
      ← (rw c.requires.2 at (c.weighted-segment_density.ensures w)),
      ← c.frac_pi_6.ensures w,
      ← m.mul_plain_law w _ _ _ c.mul-factor.ensures,
      ← c.zeta_sum-sum.ensures w (d3_ij A (entries A c.args.s.now.diameters.now)) (λ i j r p q e. search rules),
      ← m.mul_law w _ _ _ c.mul.ensures,
      ← c.after_lower-zeta_x.ensures w,
      via (answer_by (k_by (g.D.DualNum.of w))) (c.k_values.ensures w) c.in_err-k.was,
    )

pub returns : goal.returns
unfolding properties ◌>>=◌
returns g c w =
    let m = g.met.D.DualNum in
    let A = g.D.DualNum.beside w in
    rw (
      ← (rw c.requires.2 at (c.weighted-segment_density.ensures w)),
      ← c.frac_pi_6.ensures w,
      ← m.mul_plain_law w _ _ _ c.mul-factor.ensures,
      ← c.zeta_sum-sum.ensures w (d3_ij A (entries A c.args.s.now.diameters.now)) (λ i j r p q e. search rules),
      ← m.mul_law w _ _ _ c.mul.ensures,
      ← c.after_lower-zeta_x.ensures w,
      ← c.zeta_sum-sum_bar.ensures w (s3_ij A (pairs A c.args.s.now.set.sheets.now)) (λ i j r p q e. search rules),
      ← m.mul_law w _ _ _ c.mul-zeta_x_bar.ensures,
      via (answer_by (k_by (g.D.DualNum.of w))) (c.k_values.ensures w) c.in_ok-k.was,
    )
