-- What a pair's radii share, by its value: refused where sigma has no power or an exponent of the order is outside, and then no radius of the run has a potential. Assumes nothing.
use Prim.Native.Nat.{ℕ}
use mathlib.Core.Path.{◌≡◌, refl, ap, ◌∙◌}
use mathlib.Core.Bool.{Bool, true, false, ◌&&◌, cond}
use Rattle.number.specs.Ans.{Ans, held, refused, ◌>>=◌, demand}
use Rattle.number.specs.Arith.{Arith}
use Rattle.number.specs.Functions.{Functions}
use Rattle.saftvrqmie_potential.specs.Potential.{PairIn, quantum_d, potential}
use Rattle.saftvrqmie_potential.specs.Shared.{TermOf, Sharing, Unraised, exponents_inside, term_by, term_of, shared_by, shared_of}
use Rattle.saftvrqmie_potential.specs.declared.Term.{Term}
use Rattle.saftvrqmie_potential.specs.declared.Shared.{Shared}
use Rattle.saftvrqmie_potential.proofs.Lines.{first_outside, second_outside}
use Rattle.saftvrqmie_potential.proofs.Alone.{outside}

-- ---- a step that is refused, held, or tested
pub step_refused : {S T : Type 0} {n : ℕ} (x : Ans S) (f : S → Ans T) → x ≡ refused n → refused n ≡ (x >>= f)
unfolding ◌>>=◌
step_refused x f e = rw e

pub step_held : {S T : Type 0} {v : S} (x : Ans S) (f : S → Ans T) {y : Ans T} → x ≡ held v → y ≡ f v → y ≡ (x >>= f)
unfolding ◌>>=◌
step_held x f e k = rw e k

test_false : {T : Type 0} (t : Bool) (y : Ans T) → t ≡ false → refused 6 ≡ (demand 6 t >>= λ _. y)
unfolding demand ◌>>=◌
test_false t y e = rw e

test_true : {T : Type 0} (t : Bool) (y : Ans T) → t ≡ true → y ≡ (demand 6 t >>= λ _. y)
unfolding demand ◌>>=◌
test_true t y e = rw e

and_false : (t : Bool) → (t && false) ≡ false
and_false true = refl
and_false false = refl

module _ (A : Arith) (F : Functions A.Num) {D P E : Type 0} (plain : P → A.Num) (of : D → A.Num) (exponent_of : A.Num → E) (exponent_in : E → Bool) (p : PairIn A.Num) where
  abbrev value : Ans (Shared A.Num A.Num E)
  value = shared_of A F exponent_of exponent_in p

  abbrev pub Made : A.Num → Term P E → Type 0
  Made l t = term_of A F exponent_of p.sigma l ≡ held (term_by plain t)

  pub value_first : (n : ℕ) → term_of A F exponent_of p.sigma p.lr ≡ refused n → refused n ≡ value
  unfolding shared_of
  value_first n e = step_refused _ _ e

  module _ (r : Term P E) (is-r : Made p.lr r) where
    pub value_second : (n : ℕ) → term_of A F exponent_of p.sigma p.la ≡ refused n → refused n ≡ value
    unfolding shared_of
    value_second n e = step_held _ _ is-r (step_refused _ _ e)

    module _ (a : Term P E) (is-a : Made p.la a) where
      pub value_outside : exponents_inside exponent_in p.order r a ≡ false → refused 6 ≡ value
      unfolding shared_of exponents_inside
      value_outside e = step_held _ _ is-r (step_held _ _ is-a (test_false _ _ e))

      pub value_inside : (d d2 : D) (ce : P) → of d ≡ quantum_d A F p.mass p.temperature → of d2 ≡ A.pow (quantum_d A F p.mass p.temperature) 2 → plain ce ≡ A.mul p.c p.epsilon_k
          → (t : Bool) → t ≡ exponents_inside exponent_in p.order r a → exponents_inside exponent_in p.order r a ≡ true
          → held (shared_by plain of (record { r = r; a = a; d = d; d2 = d2; ce = ce; order = p.order; inside = t })) ≡ value
      unfolding shared_of exponents_inside
      value_inside d d2 ce is-d is-d2 is-ce t is-t e = rw (is-d, is-d2, is-ce, is-t ∙ e) (step_held _ _ is-r (step_held _ _ is-a (test_true _ _ e)))

-- ---- no radius has a potential: none at all where sigma has no power, none that has a base where an exponent is outside
module _ (A : Arith) (F : Functions A.Num) (powf_law : (x y : A.Num) (n : ℕ) → F.powf x y ≡ refused n → n ≡ 6) (p : PairIn A.Num) where
  then_refused : {S T : Type 0} (x : Ans S) (y : Ans T) (n : ℕ) → (x >>= λ _. y) ≡ refused n → (Q : Type 0) → (x ≡ refused n → Q) → (y ≡ refused n → Q) → Q
  unfolding ◌>>=◌
  then_refused (held v) y n e Q f g = g e
  then_refused (refused m) y n e Q f g = let k : m ≡ n = cc in f (ap refused k)

  pub unraised : (n : ℕ) → Unraised A F p n → (r : A.Num) → potential A F p r ≡ refused n
  unraised n e r = then_refused _ _ n e _ (first_outside A F powf_law p r) (second_outside A F powf_law p r)

module _ (A : Arith) (F : Functions A.Num) {P B E : Type 0} (plain : P → A.Num) (power_at : B → A.Num → Ans A.Num) (power_by : B → E → Ans A.Num) (exponent_in : E → Bool)
    (base_in : B → Bool) (raised : B → E → A.Num) (law : (b : B) (n : E) → power_by b n ≡ cond (base_in b && exponent_in n) (held (raised b n)) (refused 6)) where
  numbers : {sigma l : A.Num} {t : Term P E} → TermOf A F plain power_at power_by sigma l t → TermOf A F (λ (x : A.Num). x) power_at power_by sigma l (term_by plain t)
  numbers h =
      record {
        lambda = h.lambda;
        q1 = h.q1;
        q2 = h.q2;
        power = h.power;
        e0 = h.e0;
        e1 = h.e1;
        e2 = h.e2;
        e3 = h.e3;
        e4 = h.e4;
        e5 = h.e5;
        e6 = h.e6;
      }

  module _ (p : PairIn A.Num) (r a : Term P E) (is-r : TermOf A F plain power_at power_by p.sigma p.lr r) (is-a : TermOf A F plain power_at power_by p.sigma p.la a) where
    abbrev whole : Shared A.Num A.Num E
    whole =
        record {
          r = term_by plain r;
          a = term_by plain a;
          d = quantum_d A F p.mass p.temperature;
          d2 = A.pow (quantum_d A F p.mass p.temperature) 2;
          ce = A.mul p.c p.epsilon_k;
          order = p.order;
          inside = exponents_inside exponent_in p.order (term_by plain r) (term_by plain a);
        }

    shared : Sharing A F (λ (x : A.Num). x) power_at power_by (λ (x : A.Num). x) exponent_in p whole
    shared = record { r = numbers is-r; a = numbers is-a; d = refl; d2 = refl; ce = refl; order = refl; inside = refl }

    pub exponent_outside : exponents_inside exponent_in p.order r a ≡ false → (x : A.Num) (b : B) → power_at b ≡ F.powf x → potential A F p x ≡ refused 6
    unfolding exponents_inside
    exponent_outside e x b is-b = outside base_in raised law shared is-b (rw e (and_false (base_in b)))
