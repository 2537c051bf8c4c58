-- `qmie_potential_ij` of saftvrqmie/eos/hard_sphere.rs: the Mie potential with Feynman-Hibbs corrections and its two derivatives (Aasen et al. 2019), over any arithmetic, in the Rust's order of operations.
use Rattle.std.specs.Prelude.{ℕ, ◌+◌, ◌*◌, ltb, Float, get_or, List, Bool, false, cond}
use Rattle.number.specs.Ans.{Ans, held, ◌>>=◌}
use Rattle.number.specs.Arith.{Arith, decimal, floats, whole}
use Rattle.number.specs.Functions.{Functions}
use Rattle.number.specs.Lists.{at}
use Rattle.sizes.specs.Sizes.{sheet}
use Rattle.saftvrqmie_parameters.specs.Parameters.{unused}
use Rattle.saftvrqmie_parameters.specs.declared.OrderRecord.{OrderRecord}
use Rattle.saftvrqmie_parameters.specs.declared.FeynmanHibbsOrder.{FeynmanHibbsOrder}
use Rattle.saftvrqmie_parameters.specs.declared.FeynmanHibbsOrder.TheVariants.{FH0, FH1, FH2}
use Rattle.saftvrqmie_potential.specs.declared.Pair.{Pair}
use Rattle.saftvrqmie_potential.specs.declared.QMiePotential.{QMiePotential}

-- the parameters of a pair at (i, j), and the temperature, in the numbers N
pub record PairIn (N : Type 0) : Type 0 where
  pub sigma : N
  pub epsilon_k : N
  pub c : N
  pub lr : N
  pub la : N
  pub mass : N
  pub order : FeynmanHibbsOrder
  pub temperature : N

-- a pair of the float run
abbrev pub FloatPair : Type 0
FloatPair = Pair Float Float

-- a pair as a run reads it: each number a point
abbrev pub points_of : (A : Arith) → FloatPair → PairIn A.Num
points_of A p =
    record {
      sigma = A.lit p.sigma;
      epsilon_k = A.lit p.epsilon_k;
      c = A.lit p.c;
      lr = A.lit p.lr;
      la = A.lit p.la;
      mass = A.lit p.mass;
      order = p.order;
      temperature = A.lit p.temperature;
    }

abbrev pub pair_in : FloatPair → PairIn Float
pair_in p = points_of floats p

-- a pair whose plain numbers are read by `plain`, and its temperature by `of`
abbrev pub pair_by : {D P N : Type 0} → (P → N) → (D → N) → Pair D P → PairIn N
pair_by plain of p =
    record {
      sigma = plain p.sigma;
      epsilon_k = plain p.epsilon_k;
      c = plain p.c;
      lr = plain p.lr;
      la = plain p.la;
      mass = plain p.mass;
      order = p.order;
      temperature = of p.temperature;
    }

-- a pair of a run whose numbers are the formulas' own
abbrev pub pair_of : {N : Type 0} → Pair N N → PairIn N
pair_of = pair_by (λ x. x) (λ x. x)

-- what a set holds at entry e of its sheets, and the temperature, which may carry a slope
abbrev pub pair_at_entry : {D : Type 0} → List Float → List OrderRecord → D → ℕ → Pair D Float
pair_at_entry s orders t e =
    record {
      sigma = at s e;
      epsilon_k = at s (1 * sheet + e);
      c = at s (2 * sheet + e);
      lr = at s (3 * sheet + e);
      la = at s (4 * sheet + e);
      mass = at s (5 * sheet + e);
      order = (get_or orders e unused).order;
      temperature = t;
    }

-- [u, u_r, u_rr]
pub record PotentialIn (N : Type 0) : Type 0 where
  pub u : N
  pub u_r : N
  pub u_rr : N

-- a potential whose numbers are read by `of`
abbrev pub potential_by : {D N : Type 0} → (D → N) → QMiePotential D → PotentialIn N
potential_by of v = record { u = of v.u; u_r = of v.u_r; u_rr = of v.u_rr }

-- `fh as usize`
abbrev pub order_number : FeynmanHibbsOrder → ℕ
order_number FH0 = 0
order_number FH1 = 1
order_number FH2 = 2

-- `fh as usize > 0` and `fh as usize > 1`
abbrev pub first_order : FeynmanHibbsOrder → Bool
first_order o = ltb 0 (order_number o)

abbrev pub second_order : FeynmanHibbsOrder → Bool
second_order o = ltb 1 (order_number o)

module _ (A : Arith) where
  open A use {Num, add as ◌⊕◌, sub as ◌⊖◌, mul as ◌⊗◌, div as ◌⊘◌, neg as ⊖◌, pow, lit, after}

  infixl 60 ◌⊕◌
  infixl 60 ◌⊖◌
  infixl 70 ◌⊗◌
  infixl 70 ◌⊘◌
  infix 80 ⊖◌
  -- x.recip()
  abbrev pub recip : Num → Num
  recip x = whole A 1 ⊘ x

  -- D_QM_PREFACTOR = PLANCK * PLANCK / (TAU * TAU) / 12.0 * 1e20 / KB
  unfoldable pub prefactor : Functions Num → Num
  prefactor F =
      let planck = lit (decimal false 662607015 42) in
      let kb = lit (decimal false 1380649 29) in
      planck ⊗ planck ⊘ (F.tau ⊗ F.tau) ⊘ whole A 12 ⊗ whole A 100000000000000000000 ⊘ kb

  -- `quantum_d_mass`: temperature.recip() / mass * D_QM_PREFACTOR
  unfoldable pub quantum_d : Functions Num → Num → Num → Num
  quantum_d F mass temperature = recip temperature ⊘ mass ⊗ prefactor F

  -- q1r or q1a: l * (l - 1.0)
  unfoldable pub q1 : Num → Num
  q1 l = l ⊗ (l ⊖ whole A 1)

  -- q2r or q2a: 0.5 * (l + 2.0) * (l + 1.0) * l * (l - 1.0)
  unfoldable pub q2 : Num → Num
  q2 l = lit (decimal false 5 1) ⊗ (l ⊕ whole A 2) ⊗ (l ⊕ whole A 1) ⊗ l ⊗ (l ⊖ whole A 1)

  -- The nine lines of u, u_r and u_rr, each from its powers rr and ra of the radius and sr and sa of sigma.
  abbrev pub u_mie : Num → Num → Num → Num → Num
  u_mie rr sr ra sa = recip rr ⊗ sr ⊖ recip ra ⊗ sa

  abbrev pub ur_mie : Num → Num → Num → Num → Num → Num → Num
  ur_mie lr la rr sr ra sa = ⊖ recip rr ⊗ lr ⊗ sr ⊕ recip ra ⊗ la ⊗ sa

  abbrev pub urr_mie : Num → Num → Num → Num → Num → Num → Num
  urr_mie lr la rr sr ra sa = recip rr ⊗ lr ⊗ (lr ⊕ whole A 1) ⊗ sr ⊖ recip ra ⊗ la ⊗ (la ⊕ whole A 1) ⊗ sa

  -- u of first order, from q1r and q1a, and of second order, from q2r and q2a
  abbrev pub u_quantum : Num → Num → Num → Num → Num → Num → Num
  u_quantum qr qa rr sr ra sa = recip rr ⊗ qr ⊗ sr ⊖ recip ra ⊗ qa ⊗ sa

  -- first order, to be multiplied by d
  abbrev pub ur_first : Num → Num → Num → Num → Num → Num → Num → Num → Num
  ur_first lr la q1r q1a rr sr ra sa = recip rr ⊗ (⊖ q1r) ⊗ (lr ⊕ whole A 2) ⊗ sr ⊕ recip ra ⊗ q1a ⊗ (la ⊕ whole A 2) ⊗ sa

  abbrev pub urr_first : Num → Num → Num → Num → Num → Num → Num → Num → Num
  urr_first lr la q1r q1a rr sr ra sa = recip rr ⊗ q1r ⊗ (lr ⊕ whole A 2) ⊗ (lr ⊕ whole A 3) ⊗ sr ⊖ recip ra ⊗ q1a ⊗ (la ⊕ whole A 2) ⊗ (la ⊕ whole A 3) ⊗ sa

  -- second order, to be multiplied by d.powi(2)
  abbrev pub ur_second : Num → Num → Num → Num → Num → Num → Num → Num → Num
  ur_second lr la q2r q2a rr sr ra sa = ⊖ recip rr ⊗ q2r ⊗ (lr ⊕ whole A 4) ⊗ sr ⊕ recip ra ⊗ q2a ⊗ (la ⊕ whole A 4) ⊗ sa

  abbrev pub urr_second : Num → Num → Num → Num → Num → Num → Num → Num → Num
  urr_second lr la q2r q2a rr sr ra sa = recip rr ⊗ q2r ⊗ (lr ⊕ whole A 4) ⊗ (lr ⊕ whole A 5) ⊗ sr ⊖ recip ra ⊗ q2a ⊗ (la ⊕ whole A 4) ⊗ (la ⊕ whole A 5) ⊗ sa

  -- u += d * x, u_r += d * y, u_rr += d * z
  abbrev pub corrected : Num → PotentialIn Num → Num → Num → Num → PotentialIn Num
  corrected d v x y z = record { u = v.u ⊕ d ⊗ x; u_r = v.u_r ⊕ d ⊗ y; u_rr = v.u_rr ⊕ d ⊗ z }

  -- u *= c * eps, and both derivatives
  unfoldable pub scaled : Num → PotentialIn Num → PotentialIn Num
  scaled ce v = record { u = v.u ⊗ ce; u_r = v.u_r ⊗ ce; u_rr = v.u_rr ⊗ ce }

  module _ (F : Functions Num) (p : PairIn Num) where
    -- what is worked before the powers, at every order
    abbrev q1r : Num
    q1r = q1 p.lr

    abbrev q1a : Num
    q1a = q1 p.la

    abbrev q2r : Num
    q2r = q2 p.lr

    abbrev q2a : Num
    q2a = q2 p.la

    abbrev d : Num
    d = quantum_d F p.mass p.temperature

    -- q1, q2 and d are worked at every order, whether used or not: u stands after them
    unfoldable pub after_shared : PotentialIn Num → PotentialIn Num
    after_shared v = record { u = after q1r (after q1a (after q2r (after q2a (after d v.u)))); u_r = v.u_r; u_rr = v.u_rr }

    module _ (r : Num) where
      -- a line with its four powers: of the radius er and ea, of sigma lr and la
      unfoldable pub line : Num → Num → (Num → Num → Num → Num → Num) → Ans Num
      line er ea f =
          F.powf r er >>= λ rr.
          F.powf p.sigma p.lr >>= λ sr.
          F.powf r ea >>= λ ra.
          F.powf p.sigma p.la >>= λ sa.
          held (f rr sr ra sa)

      -- u, u_r and u_rr of the Mie potential
      unfoldable pub mie : Ans (PotentialIn Num)
      mie =
          line p.lr p.la u_mie >>= λ u.
          line (p.lr ⊕ whole A 1) (p.la ⊕ whole A 1) (ur_mie p.lr p.la) >>= λ u_r.
          line (p.lr ⊕ whole A 2) (p.la ⊕ whole A 2) (urr_mie p.lr p.la) >>= λ u_rr.
          held (record { u = u; u_r = u_r; u_rr = u_rr })

      -- the correction of first order
      unfoldable pub add_first : PotentialIn Num → Ans (PotentialIn Num)
      add_first v =
          line (p.lr ⊕ whole A 2) (p.la ⊕ whole A 2) (u_quantum q1r q1a) >>= λ x.
          line (p.lr ⊕ whole A 3) (p.la ⊕ whole A 3) (ur_first p.lr p.la q1r q1a) >>= λ y.
          line (p.lr ⊕ whole A 4) (p.la ⊕ whole A 4) (urr_first p.lr p.la q1r q1a) >>= λ z.
          held (corrected d v x y z)

      -- the correction of second order; d.powi(2) is worked for each of the three
      unfoldable pub add_second : PotentialIn Num → Ans (PotentialIn Num)
      add_second v =
          line (p.lr ⊕ whole A 4) (p.la ⊕ whole A 4) (u_quantum q2r q2a) >>= λ x.
          line (p.lr ⊕ whole A 5) (p.la ⊕ whole A 5) (ur_second p.lr p.la q2r q2a) >>= λ y.
          line (p.lr ⊕ whole A 6) (p.la ⊕ whole A 6) (urr_second p.lr p.la q2r q2a) >>= λ z.
          held (corrected (pow d 2) v x y z)

      -- `qmie_potential_ij` at the radius r
      unfoldable pub potential : Ans (PotentialIn Num)
      potential =
          mie >>= λ v.
          cond (first_order p.order) (add_first v) (held v) >>= λ v₁.
          cond (second_order p.order) (add_second v₁) (held v₁) >>= λ v₂.
          held (after_shared (scaled (p.c ⊗ p.epsilon_k) v₂))
