-- What the code works once for a pair, and what that is: the contracts of helpers alone, which say that what they work from it is the formula's.
use Rattle.std.specs.Prelude.{ℕ, Float, ◌≡◌, Bool, true, ◌&&◌, cond, Err, Ok, Result}
use Rattle.number.specs.declared.refusal.Refusal.{Refusal}
use Rattle.number.specs.Answer.{code}
use Rattle.number.specs.Ans.{Ans, held, refused, ◌>>=◌, demand}
use Rattle.number.specs.Arith.{Arith, floats, whole}
use Rattle.number.specs.Functions.{Functions, calls}
use Rattle.elementary.specs.Port.{port}
use Rattle.dual_num.specs.declared.FloatExponent.{FloatExponent}
use Rattle.dual_num.specs.Base.{float_power, float_power_by}
use Rattle.saftvrqmie_parameters.specs.declared.FeynmanHibbsOrder.{FeynmanHibbsOrder}
use Rattle.saftvrqmie_potential.specs.Potential.{PairIn, PotentialIn, first_order, second_order, quantum_d, q1, q2, u_mie, ur_mie, urr_mie, u_quantum, ur_first, urr_first, ur_second, urr_second, corrected, scaled, potential}
use Rattle.saftvrqmie_potential.specs.declared.Term.{Term}
use Rattle.saftvrqmie_potential.specs.declared.Shared.{Shared}
use Rattle.saftvrqmie_potential.specs.declared.LinePowers.{LinePowers}

-- a line's two powers of the radius
abbrev pub powers_by : {D N : Type 0} → (D → N) → LinePowers D → N × N
powers_by of l = (of l.rr, of l.ra)

-- the potential alone
abbrev pub alone : {N : Type 0} → Ans (PotentialIn N) → Ans N
alone a = a >>= λ v. held v.u

-- a line's two exponents lie within the power's domain
abbrev pub both_inside : {E : Type 0} → (E → Bool) → E → E → Bool
both_inside exponent_in er ea = exponent_in er && exponent_in ea

-- those of the lines that the order has
unfoldable pub exponents_inside : {P E : Type 0} → (E → Bool) → FeynmanHibbsOrder → Term P E → Term P E → Bool
exponents_inside exponent_in order r a =
    let inside = both_inside exponent_in in
    (inside r.e0 a.e0 && (inside r.e1 a.e1 && inside r.e2 a.e2))
    && (cond (first_order order) (inside r.e2 a.e2 && (inside r.e3 a.e3 && inside r.e4 a.e4)) true
    && cond (second_order order) (inside r.e4 a.e4 && (inside r.e5 a.e5 && inside r.e6 a.e6)) true)

-- an exponent stands for a number: its power of each base is that at the number
module _ {B E N : Type 0} where
  abbrev pub Stands : (B → N → Ans N) → (B → E → Ans N) → E → N → Type 0
  Stands power_at power_by n e = (b : B) → power_by b n ≡ power_at b e

-- sigma has not both its powers
abbrev pub Unraised : (A : Arith) → Functions A.Num → PairIn A.Num → ℕ → Type 0
Unraised A F p n = (F.powf p.sigma p.lr >>= λ _. F.powf p.sigma p.la) ≡ refused n

-- ---- what is shared: plain numbers read by `plain`, others by `of`, and the powers of a base at a number or by an exponent
module _ (A : Arith) (F : Functions A.Num) {P B E : Type 0} (plain : P → A.Num) (power_at : B → A.Num → Ans A.Num) (power_by : B → E → Ans A.Num) where
  -- the term of the exponent l
  pub record TermOf (sigma l : A.Num) (t : Term P E) : Type 0 where
    pub lambda : plain t.lambda ≡ l
    pub q1 : plain t.q1 ≡ q1 A l
    pub q2 : plain t.q2 ≡ q2 A l
    pub power : F.powf sigma l ≡ held (plain t.power)
    pub e0 : Stands power_at power_by t.e0 l
    pub e1 : Stands power_at power_by t.e1 (A.add l (whole A 1))
    pub e2 : Stands power_at power_by t.e2 (A.add l (whole A 2))
    pub e3 : Stands power_at power_by t.e3 (A.add l (whole A 3))
    pub e4 : Stands power_at power_by t.e4 (A.add l (whole A 4))
    pub e5 : Stands power_at power_by t.e5 (A.add l (whole A 5))
    pub e6 : Stands power_at power_by t.e6 (A.add l (whole A 6))

  -- refused where sigma has no power
  abbrev pub IsTerm : A.Num → A.Num → Result (Term P E) Refusal → Type 0
  IsTerm sigma l (Ok t) = TermOf sigma l t
  IsTerm sigma l (Err e) = F.powf sigma l ≡ refused (code e)

  module _ {D : Type 0} (of : D → A.Num) (exponent_in : E → Bool) where
    pub record Sharing (p : PairIn A.Num) (s : Shared D P E) : Type 0 where
      pub r : TermOf p.sigma p.lr s.r
      pub a : TermOf p.sigma p.la s.a
      pub d : of s.d ≡ quantum_d A F p.mass p.temperature
      pub d2 : of s.d2 ≡ A.pow (quantum_d A F p.mass p.temperature) 2
      pub ce : plain s.ce ≡ A.mul p.c p.epsilon_k
      pub order : s.order ≡ p.order
      pub inside : s.inside ≡ exponents_inside exponent_in s.order s.r s.a

    -- what is shared, or that no radius of the run has a potential: where sigma has no power, no other number has one either
    abbrev pub Shares : PairIn A.Num → Result (Shared D P E) Refusal → Type 0
    Shares p (Ok s) = Sharing p s
    Shares p (Err e) = ((r : D) → potential A F p (of r) ≡ refused (code e)) × (Unraised A F p (code e) → (r : A.Num) → potential A F p r ≡ refused (code e))

-- ---- the value of what is shared, its numbers read by `plain` and `of`
abbrev pub term_by : {P N E : Type 0} → (P → N) → Term P E → Term N E
term_by plain t =
    record {
      lambda = plain t.lambda;
      q1 = plain t.q1;
      q2 = plain t.q2;
      power = plain t.power;
      e0 = t.e0;
      e1 = t.e1;
      e2 = t.e2;
      e3 = t.e3;
      e4 = t.e4;
      e5 = t.e5;
      e6 = t.e6;
    }

abbrev pub shared_by : {D P N E : Type 0} → (P → N) → (D → N) → Shared D P E → Shared N N E
shared_by plain of s =
    record {
      r = term_by plain s.r;
      a = term_by plain s.a;
      d = of s.d;
      d2 = of s.d2;
      ce = plain s.ce;
      order = s.order;
      inside = s.inside;
    }

module _ (A : Arith) (F : Functions A.Num) {E : Type 0} (exponent_of : A.Num → E) where
  -- one of the two terms, lr's or la's: its exponents, and its power of sigma
  unfoldable pub term_of : A.Num → A.Num → Ans (Term A.Num E)
  term_of sigma l =
      F.powf sigma l >>= λ power.
      held
      (record {
        lambda = l;
        q1 = q1 A l;
        q2 = q2 A l;
        power = power;
        e0 = exponent_of l;
        e1 = exponent_of (A.add l (whole A 1));
        e2 = exponent_of (A.add l (whole A 2));
        e3 = exponent_of (A.add l (whole A 3));
        e4 = exponent_of (A.add l (whole A 4));
        e5 = exponent_of (A.add l (whole A 5));
        e6 = exponent_of (A.add l (whole A 6));
      })

  -- 6 where sigma or an exponent of the order is outside: then no radius of the run has a potential
  unfoldable pub shared_of : (E → Bool) → PairIn A.Num → Ans (Shared A.Num A.Num E)
  shared_of exponent_in p =
      let d = quantum_d A F p.mass p.temperature in
      term_of p.sigma p.lr >>= λ r.
      term_of p.sigma p.la >>= λ a.
      demand 6 (exponents_inside exponent_in p.order r a) >>= λ _.
      held (record { r = r; a = a; d = d; d2 = A.pow d 2; ce = A.mul p.c p.epsilon_k; order = p.order; inside = true })

-- in floats
abbrev pub FloatShared : Type 0
FloatShared = Shared Float Float FloatExponent

abbrev pub FloatSharing : PairIn Float → FloatShared → Type 0
FloatSharing = Sharing floats (calls floats port) (λ x. x) float_power float_power_by (λ x. x) (λ n. n.inside)

abbrev pub FloatShares : PairIn Float → Result FloatShared Refusal → Type 0
FloatShares = Shares floats (calls floats port) (λ x. x) float_power float_power_by (λ x. x) (λ n. n.inside)

-- ---- the potential from what is shared, and from the powers of its lines
module _ (A : Arith) {D P E : Type 0} (plain : P → A.Num) (of : D → A.Num) (s : Shared D P E) where
  abbrev lr : A.Num
  lr = plain s.r.lambda

  abbrev la : A.Num
  la = plain s.a.lambda

  abbrev sr : A.Num
  sr = plain s.r.power

  abbrev sa : A.Num
  sa = plain s.a.power

  unfoldable pub mie_from : A.Num × A.Num → A.Num × A.Num → A.Num × A.Num → PotentialIn A.Num
  mie_from l0 l1 l2 =
      record {
        u = u_mie A l0.0 sr l0.1 sa;
        u_r = ur_mie A lr la l1.0 sr l1.1 sa;
        u_rr = urr_mie A lr la l2.0 sr l2.1 sa;
      }

  unfoldable pub first_from : A.Num × A.Num → A.Num × A.Num → A.Num × A.Num → PotentialIn A.Num → PotentialIn A.Num
  first_from l2 l3 l4 v =
      corrected A (of s.d) v
      (u_quantum A (plain s.r.q1) (plain s.a.q1) l2.0 sr l2.1 sa)
      (ur_first A lr la (plain s.r.q1) (plain s.a.q1) l3.0 sr l3.1 sa)
      (urr_first A lr la (plain s.r.q1) (plain s.a.q1) l4.0 sr l4.1 sa)

  unfoldable pub second_from : A.Num × A.Num → A.Num × A.Num → A.Num × A.Num → PotentialIn A.Num → PotentialIn A.Num
  second_from l4 l5 l6 v =
      corrected A (of s.d2) v
      (u_quantum A (plain s.r.q2) (plain s.a.q2) l4.0 sr l4.1 sa)
      (ur_second A lr la (plain s.r.q2) (plain s.a.q2) l5.0 sr l5.1 sa)
      (urr_second A lr la (plain s.r.q2) (plain s.a.q2) l6.0 sr l6.1 sa)

  unfoldable pub after_factors : A.Num → A.Num
  after_factors u = A.after (plain s.r.q1) (A.after (plain s.a.q1) (A.after (plain s.r.q2) (A.after (plain s.a.q2) (A.after (of s.d) u))))

  unfoldable pub finished_from : PotentialIn A.Num → PotentialIn A.Num
  finished_from v = let x = scaled A (plain s.ce) v in record { u = after_factors x.u; u_r = x.u_r; u_rr = x.u_rr }

-- ---- the potential at a radius from what is shared, whatever that is, by the base of the radius's powers
module _ (A : Arith) {D P B E : Type 0} (plain : P → A.Num) (of : D → A.Num) (base_in : B → Bool) (raised : B → E → A.Num) (s : Shared D P E) (b : B) where
  abbrev line_from : E → E → A.Num × A.Num
  line_from er ea = (raised b er, raised b ea)

  abbrev v₀ : PotentialIn A.Num
  v₀ = mie_from A plain of s (line_from s.r.e0 s.a.e0) (line_from s.r.e1 s.a.e1) (line_from s.r.e2 s.a.e2)

  abbrev v₁ : PotentialIn A.Num
  v₁ = first_from A plain of s (line_from s.r.e2 s.a.e2) (line_from s.r.e3 s.a.e3) (line_from s.r.e4 s.a.e4) v₀

  abbrev v₂ : PotentialIn A.Num
  v₂ = second_from A plain of s (line_from s.r.e4 s.a.e4) (line_from s.r.e5 s.a.e5) (line_from s.r.e6 s.a.e6) v₁

  -- the lines of the order, 6 where the base or an exponent of the order is outside
  unfoldable pub potential_from : Ans (PotentialIn A.Num)
  potential_from = cond (base_in b && s.inside) (held (finished_from A plain of s (cond (first_order s.order) (cond (second_order s.order) v₂ v₁) v₀))) (refused 6)

-- ---- a potential U that is given at each radius: by what is shared, or by all that the code says of what it answers
module _ (A : Arith) (F : Functions A.Num) {D P B E : Type 0} (plain : P → A.Num) (power_at : B → A.Num → Ans A.Num) (power_by : B → E → Ans A.Num) (of : D → A.Num) (exponent_in : E → Bool)
    (base_in : B → Bool) (raised : B → E → A.Num) (base_of : D → B) (s : Shared D P E) (U : A.Num → Ans (PotentialIn A.Num)) where
  abbrev pub Gives : Type 0
  Gives = (r : D) → potential_from A plain of base_in raised s (base_of r) ≡ U (of r)

  abbrev pub Told : Type 0
  Told = (r : D) (a : Ans (PotentialIn A.Num)) → ((p : PairIn A.Num) → Sharing A F plain power_at power_by of exponent_in p s → a ≡ potential A F p (of r))
      → a ≡ potential_from A plain of base_in raised s (base_of r) → a ≡ U (of r)

  -- of u alone
  abbrev pub ToldAlone : Type 0
  ToldAlone = (r : D) (a : Ans A.Num) → ((p : PairIn A.Num) → Sharing A F plain power_at power_by of exponent_in p s → a ≡ alone (potential A F p (of r)))
      → a ≡ alone (potential_from A plain of base_in raised s (base_of r)) → a ≡ alone (U (of r))
