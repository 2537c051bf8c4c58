-- First and second order perturbation of a pair (saftvrqmie/eos/dispersion.rs), and the compressibility factor, over any arithmetic, in the Rust's order of operations.
use Rattle.std.specs.Prelude.{ℕ, ◌+◌, ◌*◌, eqb, Float, pos, false, cond}
use Rattle.std.specs.Float.Ieee as Ieee
use Rattle.std.specs.Float.{binary64}
use Rattle.number.specs.Ans.{Ans, held, ◌>>=◌}
use Rattle.number.specs.Arith.{Arith, decimal, whole}
use Rattle.number.specs.Functions.{Functions}
use Rattle.number.specs.Walk.{walk}
use Rattle.saftvrqmie_parameters.specs.declared.FeynmanHibbsOrder.{FeynmanHibbsOrder}
use Rattle.saftvrqmie_potential.specs.Potential.{PairIn, order_number, first_order, second_order, recip, q1, q2}
use Rattle.saftvrqmie_dispersion_terms.specs.Terms.{combine_sutherland_and_b}
use Rattle.saftvrqmie_dispersion.specs.declared.perturbation.DispersionPair.{DispersionPair}
use Rattle.saftvrqmie_dispersion.specs.declared.perturbation.Quantum.{Quantum}
use Rattle.saftvrqmie_dispersion.specs.declared.perturbation.Factors.{Factors}

-- what both perturbations of a pair take, in the numbers N
pub record DispersionIn (N : Type 0) : Type 0 where
  pub la : N
  pub lr : N
  pub epsilon_k : N
  pub c : N
  pub zeta : N
  pub x0 : N
  pub x0_eff : N
  pub dq_div_sigma_2 : N
  pub order : FeynmanHibbsOrder

-- a pair's plain numbers read by `plain`, what hangs on state and table by `of`
abbrev pub dispersion_by : {D P N : Type 0} → (P → N) → (D → N) → DispersionPair D P → DispersionIn N
dispersion_by plain of p =
    record {
      la = plain p.la;
      lr = plain p.lr;
      epsilon_k = plain p.epsilon_k;
      c = plain p.c;
      zeta = of p.zeta;
      x0 = of p.x0;
      x0_eff = of p.x0_eff;
      dq_div_sigma_2 = of p.dq_div_sigma_2;
      order = p.order;
    }

abbrev pub dispersion_in : DispersionPair Float Float → DispersionIn Float
dispersion_in p = dispersion_by (λ x. x) (λ x. x) p

-- the quantum contributions of first and second order to the two exponents
pub record QuantumIn (N : Type 0) : Type 0 where
  pub qa1 : N
  pub qr1 : N
  pub qa2 : N
  pub qr2 : N

abbrev pub quantum_by : {D N : Type 0} → (D → N) → Quantum D → QuantumIn N
quantum_by of g = record { qa1 = of g.qa1; qr1 = of g.qr1; qa2 = of g.qa2; qr2 = of g.qr2 }

-- the factors of a turn of the second order
pub record FactorsIn (N : Type 0) : Type 0 where
  pub afac : N
  pub rfac : N
  pub arfac : N

abbrev pub factors_by : {D N : Type 0} → (D → N) → Factors D → FactorsIn N
factors_by of h = record { afac = of h.afac; rfac = of h.rfac; arfac = of h.arfac }

-- each factor taken as a D
abbrev pub taken_each : {N : Type 0} → (N → N) → FactorsIn N → FactorsIn N
taken_each taken h = record { afac = taken h.afac; rfac = taken h.rfac; arfac = taken h.arfac }

module _ (A : Arith) where
  open A use {Num, add as ◌⊕◌, sub as ◌⊖◌, mul as ◌⊗◌, div as ◌⊘◌, neg as ⊖◌, pow, lit, after}

  infixl 60 ◌⊕◌
  infixl 60 ◌⊖◌
  infixl 70 ◌⊗◌
  infixl 70 ◌⊘◌
  infix 80 ⊖◌
  abbrev one : Num
  one = whole A 1

  abbrev two : Num
  two = whole A 2

  -- what both sums over pairs work before their perturbation, from the pair's diameter, effective diameter and quantum_d, and the packing fraction
  unfoldable pub dispersion_pair : PairIn Num → Num → Num → Num → Num → DispersionIn Num
  dispersion_pair p d-hs s-eff dq zeta =
      record {
        la = p.la;
        lr = p.lr;
        epsilon_k = p.epsilon_k;
        c = p.c;
        zeta = zeta;
        x0 = recip A d-hs ⊗ p.sigma;
        x0_eff = s-eff ⊘ d-hs;
        dq_div_sigma_2 = dq ⊘ pow p.sigma 2;
        order = p.order;
      }

  -- k: the isothermal hard sphere compressibility factor
  unfoldable pub k_factor : Num → Num
  k_factor zeta =
      let four = whole A 4 in
      pow (⊖ zeta ⊕ one) 4 ⊘ (zeta ⊗ four ⊕ pow zeta 2 ⊗ four ⊖ pow zeta 3 ⊗ four ⊕ pow zeta 4 ⊕ one)

  -- qa1 or qr1, qa2 or qr2: the quantum contributions of first and second order, from dq_div_sigma_2 and an exponent
  unfoldable pub quantum1 : Num → Num → Num
  quantum1 dq l = dq ⊗ q1 A l

  unfoldable pub quantum2 : Num → Num → Num
  quantum2 dq l = pow dq 2 ⊗ q2 A l

  unfoldable pub quantum_of : DispersionIn Num → QuantumIn Num
  quantum_of p =
      record {
        qa1 = quantum1 p.dq_div_sigma_2 p.la;
        qr1 = quantum1 p.dq_div_sigma_2 p.lr;
        qa2 = quantum2 p.dq_div_sigma_2 p.la;
        qr2 = quantum2 p.dq_div_sigma_2 p.lr;
      }

  -- The factors of the turns of the second order.
  unfoldable pub factors0 : FactorsIn Num
  factors0 = record { afac = one; rfac = one; arfac = ⊖ one ⊗ two }

  module _ (g : QuantumIn Num) where
    unfoldable pub factors1 : FactorsIn Num
    factors1 =
        let rfac = g.qr1 ⊗ two in
        let afac = g.qa1 ⊗ two in
        record { afac = afac; rfac = rfac; arfac = ⊖ (rfac ⊕ afac) }

    unfoldable pub factors2 : FactorsIn Num
    factors2 = record { afac = g.qa1 ⊗ g.qa1; rfac = g.qr1 ⊗ g.qr1; arfac = ⊖ g.qa1 ⊗ g.qr1 ⊗ two }

    -- what order 2 adds to them
    unfoldable pub factors2_more : FactorsIn Num → FactorsIn Num
    factors2_more h = record { afac = h.afac ⊕ g.qa2 ⊗ two; rfac = h.rfac ⊕ g.qr2 ⊗ two; arfac = h.arfac ⊕ ⊖ (g.qr2 ⊕ g.qa2) ⊗ two }

    unfoldable pub factors3 : FactorsIn Num
    factors3 = record { afac = g.qa2 ⊗ g.qa1 ⊗ two; rfac = g.qr2 ⊗ g.qr1 ⊗ two; arfac = ⊖ (g.qr2 ⊗ g.qa1 ⊕ g.qa2 ⊗ g.qr1) ⊗ two }

    unfoldable pub factors4 : FactorsIn Num
    factors4 = record { afac = g.qa2 ⊗ g.qa2; rfac = g.qr2 ⊗ g.qr2; arfac = ⊖ g.qr2 ⊗ g.qa2 ⊗ two }

    -- afac, rfac and arfac at turn q
    unfoldable pub factors : FeynmanHibbsOrder → ℕ → FactorsIn Num
    factors order q =
        cond (eqb q 0) factors0
        (cond (eqb q 1) factors1
        (cond (eqb q 2) (cond (second_order order) (factors2_more factors2) factors2)
        (cond (eqb q 3) factors3 factors4)))

  -- the first order's last product; dq_div_sigma_2 is worked at every order, used or not
  unfoldable pub first_closed : DispersionIn Num → Num → Num
  first_closed p v = after p.dq_div_sigma_2 (v ⊗ p.c)

  -- the sum of the second order's turns, scaled; the quantum contributions are worked at every order, used or not
  unfoldable pub second_closed : DispersionIn Num → QuantumIn Num → Num → Num
  second_closed p g a2 = after g.qa1 (after g.qr1 (after g.qa2 (after g.qr2 (a2 ⊗ lit (decimal false 5 1) ⊗ p.epsilon_k ⊗ pow p.c 2))))

  -- `combine` stands for combine_sutherland_and_b of the pair, as a function of the exponent
  module _ (p : DispersionIn Num) (combine : Num → Ans Num) where
    -- ---- `first_order_perturbation_ij`
    unfoldable pub first_mie : Ans Num
    first_mie =
        combine p.la >>= λ int-a.
        combine p.lr >>= λ int-r.
        held (int-a ⊖ int-r)

    -- a quantum correction: what the exponents grow by, and the factors of both
    unfoldable pub first_quantum : Num → Num → Num → Num → Ans Num
    first_quantum more qa qr v =
        combine (p.la ⊕ more) >>= λ int-qa.
        combine (p.lr ⊕ more) >>= λ int-qr.
        held (v ⊕ (int-qa ⊗ qa ⊖ int-qr ⊗ qr))

    -- of first and of second order
    abbrev pub first_q1 : Num → Ans Num
    first_q1 = first_quantum two (quantum1 p.dq_div_sigma_2 p.la) (quantum1 p.dq_div_sigma_2 p.lr)

    abbrev pub first_q2 : Num → Ans Num
    first_q2 = first_quantum (whole A 4) (quantum2 p.dq_div_sigma_2 p.la) (quantum2 p.dq_div_sigma_2 p.lr)

    unfoldable pub first_order_by : Ans Num
    first_order_by =
        first_mie >>= λ v.
        cond (first_order p.order) (first_q1 v) (held v) >>= λ v₁.
        cond (second_order p.order) (first_q2 v₁) (held v₁) >>= λ v₂.
        held (first_closed p v₂)

    -- ---- `second_order_perturbation_ij`
    -- turn q: `2.0 * q as f64` is a product with the number q
    unfoldable pub second_turn : QuantumIn Num → ℕ → Num → Ans Num
    second_turn g q a2 =
        let shift = two ⊗ lit (Ieee.of_int binary64 (pos q)) in
        let h = factors g p.order q in
        combine (two ⊗ p.la ⊕ shift) >>= λ int-a.
        combine (two ⊗ p.lr ⊕ shift) >>= λ int-r.
        combine (p.la ⊕ p.lr ⊕ shift) >>= λ int-ar.
        held (a2 ⊕ (int-a ⊗ h.afac ⊕ int-ar ⊗ h.arfac ⊕ int-r ⊗ h.rfac))

    unfoldable pub second_order_by : Ans Num
    second_order_by =
        let g = quantum_of p in
        walk (order_number p.order * 2 + 1) (second_turn g) (whole A 0) >>= λ a2.
        held (second_closed p g a2)

  -- combine_sutherland_and_b of a pair, and both perturbations by it
  unfoldable pub combine_of : Functions Num → DispersionIn Num → Num → Ans Num
  combine_of F p = combine_sutherland_and_b A F p.epsilon_k p.zeta p.x0 p.x0_eff

  unfoldable pub first_order_ij : Functions Num → DispersionIn Num → Ans Num
  first_order_ij F p = first_order_by p (combine_of F p)

  unfoldable pub second_order_ij : Functions Num → DispersionIn Num → Ans Num
  second_order_ij F p = second_order_by p (combine_of F p)
