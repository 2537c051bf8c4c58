-- Numbers with slopes of the exact run beside quotients of polynomials: each operation keeps that value and slope are those of the quotient and of its derivative. Assumes nothing.
use Prim.Native.Nat.{ℕ, zero, suc}
use mathlib.Core.Path.{◌≡◌, refl, sym, ap, ◌∙◌, subst}
use mathlib.Core.Bool.{true, not}
use mathlib.Core.Option.{Option, some}
use mathlib.Core.Quot
use lib.Dec.{T}
use lib.IntN.{pos}
use lib.Ieee as Ieee
use lib.Ieee.{Float, binary64}
use lib.Ieee.Scale.{finite}
use Rattle.number.specs.Frac.{Frac, frac, add_f, sub_f, neg_f, mul_f, div_f, val_f}
use Rattle.number.specs.Arith.{zero64, one64}
use Rattle.number.specs.Power.{digits, pow_digits, pow_up}
use Rattle.number.proofs.Frac.{val_f_pos}
use Rattle.number.proofs.Rel.{Rel}
use Rattle.enclosure.specs.Constants.{Choice}
use Rattle.enclosure.specs.Exact.{Exact, exacts, exactly, is_zero, add_x, sub_x, mul_x, div_x, neg_x, pow_x, down_x}
use Rattle.dual.specs.Dual.{DualOf, plain_d, add_d, sub_d, neg_d, mul_d, div_d, pow_d, down_d}
use Rattle.chain_derivatives.specs.Quotient.{Quotient, constant_of, constant, quotients, add_q, sub_q, neg_q, mul_q, div_q, pow_q, down_q}
use Rattle.chain_derivatives.specs.Chain.{OfFractions}
use Rattle.chain_derivatives.proofs.Rational.{Rational, Proper, Equal, of, of_equal, whole_p, minus_p, whole, whole_plus, ◌⊞◌, ◌⊠◌, ⊟◌, rational, product_not_zero}
use Rattle.chain_derivatives.proofs.Stands.{Stands, proper, itself, stands_add, stands_mul, stands_neg, stands_whole, stands_div, not_zero, is_not_zero}
use Rattle.chain_derivatives.proofs.Jet.{Derived, derived_as, derived_constant, derived_add, derived_sub, derived_neg, derived_mul, derived_div}
use Rattle.chain_derivatives.proofs.Results.{Has, Some, Known, exactly_known, chosen_known, none_some, one_result, from_add, from_sub, from_mul, from_div, from_neg, has_add, has_sub, has_mul, has_div, has_neg}
use Rattle.chain_derivatives.proofs.Guarded.{no_result, nothing, pow_g, down_g, guarded}

-- a result, and the number it stands for
pub record Result (x : Exact) (a : Rational) : Type 0 where
  pub fraction : Frac
  pub has : Has x fraction
  pub stands : Stands fraction a

module _ {x y : Exact} {a b : Rational} (h : Result x a) (k : Result y b) where
  result_add : Result (add_x x y) (a ⊞ b)
  result_add = record { fraction = add_f h.fraction k.fraction; has = has_add x y _ _ h.has k.has; stands = stands_add _ _ _ _ h.stands k.stands }

  result_sub : Result (sub_x x y) (a ⊞ ⊟ b)
  result_sub = record { fraction = sub_f h.fraction k.fraction; has = has_sub x y _ _ h.has k.has; stands = stands_add _ _ _ _ h.stands (stands_neg _ _ k.stands) }

  result_mul : Result (mul_x x y) (a ⊠ b)
  result_mul = record { fraction = mul_f h.fraction k.fraction; has = has_mul x y _ _ h.has k.has; stands = stands_mul _ _ _ _ h.stands k.stands }

  result_div : (b ≡ whole 0 → ⊥) → (w : Rational) × Result (div_x x y) w × (w ⊠ b ≡ a)
  result_div n =
      let t = is_not_zero k.fraction b k.stands n in
      let q = stands_div h.fraction k.fraction a b h.stands k.stands t in
      (q.0, record { fraction = div_f h.fraction k.fraction; has = has_div x y _ _ h.has k.has t; stands = q.1 }, q.2)

result_neg : {x : Exact} {a : Rational} → Result x a → Result (neg_x x) (⊟ a)
result_neg {x = x} h = record { fraction = neg_f h.fraction; has = has_neg x _ h.has; stands = stands_neg _ _ h.stands }

-- the whole numbers of the slope rules, and +0
pub result_is : (f : Float) (x : Proper) → finite f ≡ true → Equal (proper (val_f f) (val_f_pos f)) x → Result (exactly f) (of x)
unfolding exactly
result_is f x e h = record { fraction = val_f f; has = rw e; stands = record { positive = val_f_pos f; is = of_equal (proper (val_f f) (val_f_pos f)) x h } }

pub result_zero : Result (exactly zero64) (whole 0)
unfolding whole Ieee.of_bits
result_zero = result_is zero64 (whole_p 0) refl refl

result_one : Result (exactly one64) (whole 1)
unfolding whole Ieee.of_bits
result_one = result_is one64 (whole_p 1) refl refl

result_two : Result (exactly (Ieee.of_int binary64 (pos 2))) (whole 2)
unfolding whole Ieee.of_int
result_two = result_is (Ieee.of_int binary64 (pos 2)) (whole_p 2) refl refl

result_three : Result (exactly (Ieee.of_int binary64 (pos 3))) (whole 3)
unfolding whole Ieee.of_int
result_three = result_is (Ieee.of_int binary64 (pos 3)) (whole_p 3) refl refl

result_four : Result (exactly (Ieee.of_int binary64 (pos 4))) (whole 4)
unfolding whole Ieee.of_int
result_four = result_is (Ieee.of_int binary64 (pos 4)) (whole_p 4) refl refl

result_minus_three : Result (exactly (Ieee.neg (Ieee.of_int binary64 (pos 3)))) (⊟ whole 3)
unfolding whole Ieee.of_int Ieee.neg ⊟◌ Quot.Quotient.lift
result_minus_three = result_is (Ieee.neg (Ieee.of_int binary64 (pos 3))) (minus_p (whole_p 3)) refl refl

-- ---- whole powers
two : whole 2 ≡ whole 1 ⊞ whole 1
two = whole_plus 1 1

three : whole 3 ≡ whole 1 ⊞ (whole 1 ⊞ whole 1)
three = whole_plus 1 2 ∙ ap (λ (x : Rational). whole 1 ⊞ x) two

four : whole 4 ≡ whole 1 ⊞ (whole 1 ⊞ (whole 1 ⊞ whole 1))
four = whole_plus 1 3 ∙ ap (λ (x : Rational). whole 1 ⊞ x) three

-- the slope of the product that a power is, and n·a^(n−1)·a'
module _ (a b : Rational) where
  slope_2 : whole 0 ⊠ (a ⊠ a) ⊞ whole 1 ⊠ (b ⊠ a ⊞ a ⊠ b) ≡ whole 2 ⊠ (whole 1 ⊠ a) ⊠ b
  slope_2 = rw two (simp rational)

  slope_3 : (whole 0 ⊠ a ⊞ whole 1 ⊠ b) ⊠ (a ⊠ a) ⊞ whole 1 ⊠ a ⊠ (b ⊠ a ⊞ a ⊠ b) ≡ whole 3 ⊠ (whole 1 ⊠ (a ⊠ a)) ⊠ b
  slope_3 = rw three (simp rational)

  slope_4 : whole 0 ⊠ (a ⊠ a ⊠ (a ⊠ a)) ⊞ whole 1 ⊠ ((b ⊠ a ⊞ a ⊠ b) ⊠ (a ⊠ a) ⊞ a ⊠ a ⊠ (b ⊠ a ⊞ a ⊠ b)) ≡ whole 4 ⊠ (whole 1 ⊠ a ⊠ (a ⊠ a)) ⊠ b
  slope_4 = rw four (simp rational)

base_2 : (x : Exact) → Some (pow_x x 2) → Some x
unfolding pow_x pow_up pow_digits digits
base_2 x s = (from_mul _ _ (from_mul _ _ s).1).0

base_3 : (x : Exact) → Some (pow_x x 3) → Some x
unfolding pow_x pow_up pow_digits digits
base_3 x s = (from_mul _ _ (from_mul _ _ s).1).0

pub base_4 : (x : Exact) → Some (pow_x x 4) → Some x
unfolding pow_x pow_up pow_digits digits
base_4 x s = (from_mul _ _ (from_mul _ _ (from_mul _ _ s).1).0).0

module _ {x : Exact} {a : Rational} (h : Result x a) where
  result_1 : Result (pow_x x 1) (whole 1 ⊠ a)
  unfolding pow_x pow_up pow_digits digits
  result_1 = result_mul result_one h

  result_2 : Result (pow_x x 2) (whole 1 ⊠ (a ⊠ a))
  unfolding pow_x pow_up pow_digits digits
  result_2 = result_mul result_one (result_mul h h)

  result_3 : Result (pow_x x 3) (whole 1 ⊠ a ⊠ (a ⊠ a))
  unfolding pow_x pow_up pow_digits digits
  result_3 = result_mul (result_mul result_one h) (result_mul h h)

  result_4 : Result (pow_x x 4) (whole 1 ⊠ (a ⊠ a ⊠ (a ⊠ a)))
  unfolding pow_x pow_up pow_digits digits
  result_4 = result_mul result_one (result_mul (result_mul h h) (result_mul h h))

-- the power −3, whose slope is −3·a^(−4)·a'
module _ (k i a b : Rational) where
  arranged : ⊟ k ⊠ i ⊠ b ⊠ (whole 1 ⊠ a ⊠ (a ⊠ a) ⊠ (whole 1 ⊠ a ⊠ (a ⊠ a))) ≡ i ⊠ (whole 1 ⊠ (a ⊠ a ⊠ (a ⊠ a))) ⊠ ⊟ (k ⊠ (a ⊠ a) ⊠ b)
  arranged = simp rational

  left : whole 1 ⊠ ⊟ (k ⊠ (a ⊠ a) ⊠ b) ≡ whole 0 ⊠ (whole 1 ⊠ a ⊠ (a ⊠ a)) ⊞ ⊟ (whole 1 ⊠ (k ⊠ (whole 1 ⊠ (a ⊠ a)) ⊠ b))
  left = simp rational

  slope_down : i ⊠ (whole 1 ⊠ (a ⊠ a ⊠ (a ⊠ a))) ≡ whole 1
      → ⊟ k ⊠ i ⊠ b ⊠ (whole 1 ⊠ a ⊠ (a ⊠ a) ⊠ (whole 1 ⊠ a ⊠ (a ⊠ a))) ≡ whole 0 ⊠ (whole 1 ⊠ a ⊠ (a ⊠ a)) ⊞ ⊟ (whole 1 ⊠ (k ⊠ (whole 1 ⊠ (a ⊠ a)) ⊠ b))
  slope_down e = arranged ∙ ap (λ (x : Rational). x ⊠ ⊟ (k ⊠ (a ⊠ a) ⊠ b)) e ∙ left

-- a divisor that was met is not zero
met : (x : Exact) (a : Rational) → Result x a → (q : Frac) → Has x q → T (not (is_zero q)) → a ≡ whole 0 → ⊥
met x a h q e t = not_zero h.fraction a h.stands (subst (λ (f : Frac). T (not (is_zero f))) (one_result x q h.fraction e h.has) t)

-- ---- value and slope are those of the quotient and of its derivative, at the density r
module _ (r : Rational) where
  pub record Good (t : DualOf Exact) (q : Quotient) : Type 0 where
    pub a : Rational
    pub b : Rational
    pub value : Result t.re a
    pub slope : Result t.eps b
    pub derived : Derived r q a b

  -- wherever the run to the number had a result
  abbrev pub Derives : DualOf Exact → Quotient → Type 0
  Derives t q = Some t.re → Some t.eps → Good t q

-- each operation, whatever fractions are chosen for the constants
module _ (C : Choice) (r : Rational) where
  module _ (x y : DualOf Exact) (u v : Quotient) (h : Derives r x u) (k : Derives r y v) where
    pub derives_add : Derives r (add_d (exacts C) x y) (add_q u v)
    unfolding add_d
    derives_add s t =
        let s' = from_add _ _ s in
        let t' = from_add _ _ t in
        let m = h s'.0 t'.0 in
        let n = k s'.1 t'.1 in
        record { a = m.a ⊞ n.a; b = m.b ⊞ n.b; value = result_add m.value n.value; slope = result_add m.slope n.slope; derived = derived_add r m.derived n.derived }

    pub derives_sub : Derives r (sub_d (exacts C) x y) (sub_q u v)
    unfolding sub_d
    derives_sub s t =
        let s' = from_sub _ _ s in
        let t' = from_sub _ _ t in
        let m = h s'.0 t'.0 in
        let n = k s'.1 t'.1 in
        record { a = m.a ⊞ ⊟ n.a; b = m.b ⊞ ⊟ n.b; value = result_sub m.value n.value; slope = result_sub m.slope n.slope; derived = derived_sub r m.derived n.derived }

    pub derives_mul : Derives r (mul_d (exacts C) x y) (mul_q u v)
    unfolding mul_d
    derives_mul s t =
        let t' = from_add _ _ t in
        let l = from_mul _ _ t'.0 in
        let g = from_mul _ _ t'.1 in
        let m = h g.0 l.0 in
        let n = k l.1 g.1 in
        record {
          a = m.a ⊠ n.a;
          b = m.b ⊠ n.a ⊞ m.a ⊠ n.b;
          value = result_mul m.value n.value;
          slope = result_add (result_mul m.slope n.value) (result_mul m.value n.slope);
          derived = derived_mul r m.derived n.derived;
        }

    pub derives_div : Derives r (div_d (exacts C) x y) (div_q u v)
    unfolding div_d
    derives_div s t =
        let s' = from_div _ _ s in
        let t' = from_sub _ _ (from_div _ _ t).0 in
        let l = from_mul _ _ t'.0 in
        let g = from_mul _ _ t'.1 in
        let m = h g.0 l.0 in
        let n = k l.1 g.1 in
        let same = one_result y.re _ _ s'.1.1 n.value.has in
        let w = not_zero n.value.fraction n.a n.value.stands (subst (λ (f : Frac). T (not (is_zero f))) same s'.1.2) in
        let z = result_div m.value n.value w in
        let e = result_div (result_sub (result_mul m.slope n.value) (result_mul m.value n.slope)) (result_mul n.value n.value) (product_not_zero _ _ w w) in
        record { a = z.0; b = e.0; value = z.1; slope = e.1; derived = derived_div r m.derived n.derived w z.2 e.2 }

  pub derives_neg : (x : DualOf Exact) (u : Quotient) → Derives r x u → Derives r (neg_d (exacts C) x) (neg_q u)
  unfolding neg_d
  derives_neg x u h s t =
      let m = h (from_neg _ s) (from_neg _ t) in
      record { a = ⊟ m.a; b = ⊟ m.b; value = result_neg m.value; slope = result_neg m.slope; derived = derived_neg r m.derived }

  -- a plain number
  pub derives_plain : (x u : Exact) → Known x u → Derives r (plain_d (exacts C) x) (constant u)
  unfolding plain_d constant
  derives_plain x u h (v, e) t =
      let it = itself v (h.proper v e) in
      record {
        a = of (proper v (h.proper v e));
        b = whole 0;
        value = record { fraction = v; has = e; stands = it };
        slope = result_zero;
        derived = subst (λ (o : Option Frac). Derived r (constant_of o) (of (proper v (h.proper v e))) (whole 0)) (sym e ∙ ap (λ (y : Exact). y.exact) h.same) (derived_constant r it);
      }

  -- ---- whole powers
  one_is : Derived r (constant_of (some (frac 1 0 1))) (whole 1) (whole 0)
  one_is = derived_constant r (stands_whole 1)

  module _ {q : Quotient} {a b : Rational} (h : Derived r q a b) where
    derived_2 : Derived r (pow_q q 2) (whole 1 ⊠ (a ⊠ a)) (whole 2 ⊠ (whole 1 ⊠ a) ⊠ b)
    unfolding pow_q pow_up pow_digits digits
    derived_2 = derived_as r (derived_mul r one_is (derived_mul r h h)) refl (slope_2 a b)

    derived_3 : Derived r (pow_q q 3) (whole 1 ⊠ a ⊠ (a ⊠ a)) (whole 3 ⊠ (whole 1 ⊠ (a ⊠ a)) ⊠ b)
    unfolding pow_q pow_up pow_digits digits
    derived_3 = derived_as r (derived_mul r (derived_mul r one_is h) (derived_mul r h h)) refl (slope_3 a b)

    derived_4 : Derived r (pow_q q 4) (whole 1 ⊠ (a ⊠ a ⊠ (a ⊠ a))) (whole 4 ⊠ (whole 1 ⊠ a ⊠ (a ⊠ a)) ⊠ b)
    unfolding pow_q pow_up pow_digits digits
    derived_4 = derived_as r (derived_mul r one_is (derived_mul r (derived_mul r h h) (derived_mul r h h))) refl (slope_4 a b)

  derives_2 : (x : DualOf Exact) (u : Quotient) → Derives r x u → Derives r (pow_d (exacts C) x 2) (pow_q u 2)
  unfolding pow_d
  derives_2 x u h s t =
      let m = h (base_2 _ s) (from_mul _ _ t).1 in
      record { a = _; b = _; value = result_2 m.value; slope = result_mul (result_mul result_two (result_1 m.value)) m.slope; derived = derived_2 m.derived }

  derives_3 : (x : DualOf Exact) (u : Quotient) → Derives r x u → Derives r (pow_d (exacts C) x 3) (pow_q u 3)
  unfolding pow_d
  derives_3 x u h s t =
      let m = h (base_3 _ s) (from_mul _ _ t).1 in
      record { a = _; b = _; value = result_3 m.value; slope = result_mul (result_mul result_three (result_2 m.value)) m.slope; derived = derived_3 m.derived }

  derives_4 : (x : DualOf Exact) (u : Quotient) → Derives r x u → Derives r (pow_d (exacts C) x 4) (pow_q u 4)
  unfolding pow_d
  derives_4 x u h s t =
      let m = h (base_4 _ s) (from_mul _ _ t).1 in
      record { a = _; b = _; value = result_4 m.value; slope = result_mul (result_mul result_four (result_3 m.value)) m.slope; derived = derived_4 m.derived }

  derives_down : (x : DualOf Exact) (u : Quotient) → Derives r x u → Derives r (down_d (exacts C) x 3) (down_q u 3)
  unfolding down_d down_x down_q
  derives_down x u h s t =
      let s' = (from_div _ _ s).1 in
      let t' = from_mul _ _ t in
      let t4 = (from_div _ _ (from_mul _ _ t'.0).1).1 in
      let m = h (base_3 _ (s'.0, s'.1)) t'.1 in
      let c = result_3 m.value in
      let e = result_4 m.value in
      let n = met _ _ c s'.0 s'.1 s'.2 in
      let z = result_div result_one c n in
      let i = result_div result_one e (met _ _ e t4.0 t4.1 t4.2) in
      record {
        a = z.0;
        b = ⊟ whole 3 ⊠ i.0 ⊠ m.b;
        value = z.1;
        slope = result_mul (result_mul result_minus_three i.1) m.slope;
        derived = derived_div r one_is (derived_3 m.derived) n z.2 (slope_down (whole 3) i.0 m.a m.b i.2);
      }

  nothing_derives : (u : Quotient) → Derives r (nothing (exacts C) no_result) u
  nothing_derives u (v, e) t = absurd (none_some e)

  pub derives_pow : (n : ℕ) (x : DualOf Exact) (u : Quotient) → Derives r x u → Derives r (pow_g (exacts C) no_result x n) (pow_q u n)
  derives_pow zero x u h = nothing_derives _
  derives_pow (suc zero) x u h = nothing_derives _
  derives_pow (suc (suc zero)) x u h = derives_2 x u h
  derives_pow (suc (suc (suc zero))) x u h = derives_3 x u h
  derives_pow (suc (suc (suc (suc zero)))) x u h = derives_4 x u h
  derives_pow (suc (suc (suc (suc (suc n))))) x u h = nothing_derives _

  pub derives_downs : (n : ℕ) (x : DualOf Exact) (u : Quotient) → Derives r x u → Derives r (down_g (exacts C) no_result x n) (down_q u n)
  derives_downs zero x u h = nothing_derives _
  derives_downs (suc zero) x u h = nothing_derives _
  derives_downs (suc (suc zero)) x u h = nothing_derives _
  derives_downs (suc (suc (suc zero))) x u h = derives_down x u h
  derives_downs (suc (suc (suc (suc n)))) x u h = nothing_derives _

  abbrev pub derivatives : OfFractions C → Rel (guarded (exacts C) no_result) (quotients C)
  derivatives fine =
      record {
        R = Derives r;
        r_add = λ p q. derives_add _ _ _ _ p q;
        r_sub = λ p q. derives_sub _ _ _ _ p q;
        r_mul = λ p q. derives_mul _ _ _ _ p q;
        r_div = λ p q. derives_div _ _ _ _ p q;
        r_neg = λ p. derives_neg _ _ p;
        r_pow = λ n p. derives_pow n _ _ p;
        r_down = λ n p. derives_downs n _ _ p;
        r_lit = λ f. derives_plain _ _ (exactly_known f);
        r_constant = λ c. derives_plain _ _ (chosen_known C fine c);
        r_val = λ p. refl;
        r_after = λ p q. q;
      }
