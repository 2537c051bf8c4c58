-- `eta_eff` to `combine_sutherland_and_b` of saftvrqmie/eos/dispersion.rs (Lafitte et al. 2013), over any arithmetic, in the Rust's order of operations.
use Rattle.std.specs.Prelude.{Float, true, false, List}
use Rattle.number.specs.Ans.{Ans, held, ◌>>=◌}
use Rattle.number.specs.Arith.{Arith, decimal, whole}
use Rattle.number.specs.Functions.{Functions}
use Rattle.number.specs.Lists.{at}
use Rattle.saftvrqmie_dispersion_terms.specs.declared.PairTerms.{PairTerms}
use Rattle.mie_parameters.specs.Tables.{c0, c1, c2, c3}

module _ (A : Arith) where
  open A use {Num, add as ◌⊕◌, sub as ◌⊖◌, mul as ◌⊗◌, div as ◌⊘◌, neg as ⊖◌, pow, lit}

  infixl 60 ◌⊕◌
  infixl 60 ◌⊖◌
  infixl 70 ◌⊗◌
  infixl 70 ◌⊘◌
  infix 80 ⊖◌
  -- c[i] of `eta_eff`, from a row of LAM_COEFF and the inverse powers of lambda
  unfoldable pub lam_sum : List Float → Num → Num → Num → Num → Num
  lam_sum c inv0 inv1 inv2 inv3 = inv0 ⊗ lit (at c 0) ⊕ inv1 ⊗ lit (at c 1) ⊕ inv2 ⊗ lit (at c 2) ⊕ inv3 ⊗ lit (at c 3)

  -- `eta_eff`
  unfoldable pub eta_eff : Num → Num → Num
  eta_eff lambda zeta =
      let inv0 = whole A 1 in
      let inv1 = whole A 1 ⊘ lambda in
      let inv2 = whole A 1 ⊘ pow lambda 2 in
      let inv3 = whole A 1 ⊘ pow lambda 3 in
      zeta ⊗ (zeta ⊗ (zeta ⊗ (zeta ⊗ lam_sum c3 inv0 inv1 inv2 inv3 ⊕ lam_sum c2 inv0 inv1 inv2 inv3) ⊕ lam_sum c1 inv0 inv1 inv2 inv3) ⊕ lam_sum c0 inv0 inv1 inv2 inv3)

  -- `sutherland` from ef = eta_eff, its power p of x0 and l3 = lambda - 3
  abbrev pub sutherland_from : Num → Num → Num → Num → Num
  sutherland_from l3 epsilon_k ef p =
      (⊖ ef ⊗ lit (decimal false 5 1) ⊕ whole A 1) ⊗ lit (decimal true 12 0) ⊗ p ⊗ epsilon_k ⊘ l3 ⊘ pow (⊖ ef ⊕ whole A 1) 3

  unfoldable pub sutherland_of : Num → Num → Num → Num → Num
  sutherland_of lambda epsilon_k ef p = sutherland_from (lambda ⊖ whole A 3) epsilon_k ef p

  -- `ilambda` from its power 3 - lambda, `jlambda` from its powers 4 - lambda and 3 - lambda; and from l3 and l4 = lambda - 4
  abbrev pub ilambda_from : Num → Num → Num
  ilambda_from l3 p3 = ⊖ (p3 ⊖ whole A 1) ⊘ l3

  unfoldable pub ilambda_of : Num → Num → Num
  ilambda_of lambda p3 = ilambda_from (lambda ⊖ whole A 3) p3

  abbrev pub jlambda_from : Num → Num → Num → Num → Num
  jlambda_from l3 l4 p4 p3 = ⊖ (p4 ⊗ l3 ⊖ p3 ⊗ l4 ⊖ whole A 1) ⊘ (l3 ⊗ l4)

  unfoldable pub jlambda_of : Num → Num → Num → Num
  jlambda_of lambda p4 p3 = jlambda_from (lambda ⊖ whole A 3) (lambda ⊖ whole A 4) p4 p3

  -- the factors of the two integrals in `b`, by the packing fraction alone
  unfoldable pub factor_i : Num → Num
  factor_i zeta = (⊖ zeta ⊕ whole A 2) ⊘ pow (⊖ zeta ⊕ whole A 1) 3

  unfoldable pub factor_j : Num → Num
  factor_j zeta = ⊖ zeta ⊗ whole A 9 ⊗ (zeta ⊕ whole A 1) ⊘ pow (⊖ zeta ⊕ whole A 1) 3

  -- `b` from its factors, the two integrals, and its power p of x0
  unfoldable pub b_of : Num → Num → Num → Num → Num → Num → Num
  b_of epsilon_k fi fj i j p = p ⊗ (fi ⊗ i ⊕ fj ⊗ j) ⊗ whole A 6 ⊗ epsilon_k

  -- From here on `power` and `power-eff` stand for x0.powf and x0_eff.powf.
  unfoldable pub sutherland : Num → Num → Num → (Num → Ans Num) → Ans Num
  sutherland lambda epsilon_k zeta power =
      let ef = eta_eff lambda zeta in
      power lambda >>= λ p.
      held (sutherland_of lambda epsilon_k ef p)

  unfoldable pub ilambda : Num → (Num → Ans Num) → Ans Num
  ilambda lambda power-eff =
      power-eff (whole A 3 ⊖ lambda) >>= λ p3.
      held (ilambda_of lambda p3)

  unfoldable pub jlambda : Num → (Num → Ans Num) → Ans Num
  jlambda lambda power-eff =
      power-eff (whole A 4 ⊖ lambda) >>= λ p4.
      power-eff (whole A 3 ⊖ lambda) >>= λ p3.
      held (jlambda_of lambda p4 p3)

  -- `b`: eq. 33 of Lafitte et al. 2013, divided by the packing fraction, as the Rust says
  unfoldable pub b : Num → Num → Num → Num → (Num → Ans Num) → (Num → Ans Num) → Ans Num
  b lambda epsilon_k fi fj power power-eff =
      ilambda lambda power-eff >>= λ i.
      jlambda lambda power-eff >>= λ j.
      power lambda >>= λ p.
      held (b_of epsilon_k fi fj i j p)

  -- `combine_sutherland_and_b` from the two factors of `b` and the powers of both ratios
  unfoldable pub combine : Num → Num → Num → Num → Num → (Num → Ans Num) → (Num → Ans Num) → Ans Num
  combine lambda epsilon_k zeta fi fj power power-eff =
      sutherland lambda epsilon_k zeta power >>= λ int-as.
      b lambda epsilon_k fi fj power power-eff >>= λ int-b.
      held (int-as ⊕ int-b)

  -- `combine_sutherland_and_b`; the exponent comes last
  unfoldable pub combine_sutherland_and_b : Functions Num → Num → Num → Num → Num → Num → Ans Num
  combine_sutherland_and_b F epsilon_k zeta x0 x0_eff lambda = combine lambda epsilon_k zeta (factor_i zeta) (factor_j zeta) (F.powf x0) (F.powf x0_eff)

-- a pair's terms as a function of the exponent, from what all exponents share: plain numbers read by `plain`, others by `of`, and the powers of a base by `power_at`
module _ (A : Arith) {D P B : Type 0} (plain : P → A.Num) (of : D → A.Num) (power_at : B → A.Num → Ans A.Num) where
  unfoldable pub terms_by : PairTerms D P B → A.Num → Ans A.Num
  terms_by t lambda = combine A lambda (plain t.epsilon_k) (of t.zeta) (of t.factor_i) (of t.factor_j) (power_at t.x0) (power_at t.x0_eff)
