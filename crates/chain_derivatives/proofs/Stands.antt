-- What rational number a fraction stands for, and a list of fractions; the operations of both go together. Assumes nothing.
use Prim.Native.Nat.{ℕ, suc, ◌+◌, ◌-◌, ◌*◌, ◌<◌, ◌≤◌}
use native.Mathlib.Nat.{mul-pos, zero-lt-suc, add-sub_of_le, le_of_lt}
use native.Mathlib.Omega.{arith}
use mathlib.Core.Path.{◌≡◌, refl, sym, ap, ap₂, ◌∙◌, subst}
use mathlib.Core.Bool.{Bool, true, false, not, cond}
use mathlib.Core.List.{List, [], ◌∷◌}
use lib.Dec.{T, ltb, eqb, ltb→lt, nltb→le, T_not, not_T, eqb→eq, eqb_refl}
use Rattle.number.specs.Frac.{Frac, frac, Pos, neg_f, add_f, mul_f, inv_f, div_f}
use Rattle.number.proofs.Frac.{ring}
use Rattle.enclosure.specs.Exact.{is_zero}
use Rattle.chain_derivatives.specs.Polynomial.{evaluated, sum, negative, scaled, product, counted, derivative}
use Rattle.chain_derivatives.specs.Quotient.{Equals, fractions}
use Rattle.chain_derivatives.proofs.Rational.{Proper, Rational, of, Equal, of_equal, equal_of, times_p, whole_p, whole, ◌⊞◌, ◌⊠◌, ⊟◌, of_plus, of_times, of_minus, times_assoc, times_one}
use Rattle.chain_derivatives.proofs.Polynomial.{rationals}

abbrev pub proper : (f : Frac) → Pos f → Proper
proper (frac p n d) h = record { plus = p; minus = n; den = d; positive = h }

pub record Stands (f : Frac) (a : Rational) : Type 0 where
  pub positive : Pos f
  pub is : of (proper f positive) ≡ a

pub itself : (f : Frac) (h : Pos f) → Stands f (of (proper f h))
itself f h = record { positive = h; is = refl }

pub stands_add : (x y : Frac) (a b : Rational) → Stands x a → Stands y b → Stands (add_f x y) (a ⊞ b)
stands_add (frac p n d) (frac q m c) a b h k = record { positive = mul-pos h.positive k.positive; is = of_plus _ _ ∙ ap₂ ◌⊞◌ h.is k.is }

pub stands_mul : (x y : Frac) (a b : Rational) → Stands x a → Stands y b → Stands (mul_f x y) (a ⊠ b)
stands_mul (frac p n d) (frac q m c) a b h k = record { positive = mul-pos h.positive k.positive; is = of_times _ _ ∙ ap₂ ◌⊠◌ h.is k.is }

pub stands_neg : (x : Frac) (a : Rational) → Stands x a → Stands (neg_f x) (⊟ a)
stands_neg (frac p n d) a h = record { positive = h.positive; is = of_minus _ ∙ ap (λ (x : Rational). ⊟ x) h.is }

pub stands_whole : (n : ℕ) → Stands (frac n 0 1) (whole n)
unfolding whole
stands_whole n = itself (frac n 0 1) (zero-lt-suc 0)

-- two fractions that stand for one number are equal
pub equals : (x y : Frac) (a : Rational) → Stands x a → Stands y a → Equals x y
equals (frac p n d) (frac q m c) a h k = record { left = h.positive; right = k.positive; cross = equal_of _ _ (h.is ∙ sym k.is) }

-- and equal ones stand for one
pub one_number : (x y : Frac) (a b : Rational) → Equals x y → Stands x a → Stands y b → a ≡ b
one_number (frac p n d) (frac q m c) a b e h k = sym h.is ∙ of_equal (proper (frac p n d) h.positive) (proper (frac q m c) k.positive) e.cross ∙ k.is

-- ---- zero
pub not_zero : (y : Frac) (b : Rational) → Stands y b → T (not (is_zero y)) → b ≡ whole 0 → ⊥
unfolding whole
not_zero (frac p n d) b h t e =
    let k = equal_of (proper (frac p n d) h.positive) (whole_p 0) (h.is ∙ e) in
    T_not (eqb p n) t (subst (λ (m : ℕ). T (eqb p m)) (same k) (eqb_refl p))
  where
    same : Equal (proper (frac p n d) h.positive) (whole_p 0) → p ≡ n
    same k = omega arith

pub is_not_zero : (y : Frac) (b : Rational) → Stands y b → (b ≡ whole 0 → ⊥) → T (not (is_zero y))
unfolding whole
is_not_zero (frac p n d) b h k = not_T (eqb p n) (λ t. k (sym h.is ∙ of_equal (proper (frac p n d) h.positive) (whole_p 0) (same (eqb→eq p n t))))
  where
    same : p ≡ n → Equal (proper (frac p n d) h.positive) (whole_p 0)
    same e = omega arith

-- ---- the quotient: times its divisor it is what was divided
excess : (q m u c : ℕ) → m + u ≡ q → (c * q + 0 * m) * 1 + 0 * (u * c) ≡ 1 * (u * c) + (c * m + 0 * q) * 1
excess q m u c e = subst (λ (t : ℕ). (c * t + 0 * m) * 1 + 0 * (u * c) ≡ 1 * (u * c) + (c * m + 0 * t) * 1) e (simp ring (omega arith))

lack : (q m u c : ℕ) → q + u ≡ m → (0 * q + c * m) * 1 + 0 * (u * c) ≡ 1 * (u * c) + (0 * m + c * q) * 1
lack q m u c e = subst (λ (t : ℕ). (0 * q + c * t) * 1 + 0 * (u * c) ≡ 1 * (u * c) + (0 * t + c * q) * 1) e (simp ring (omega arith))

between : (m q : ℕ) → m < q → 0 < q - m
between m q l = omega arith

inverse_by : (q m c : ℕ) (b : Bool) → (T b → m < q) → (T (not b) → q < m) → (x : Rational) → Stands (frac q m c) x
    → (w : Rational) × Stands (cond b (frac c 0 (q - m)) (frac 0 c (m - q))) w × (w ⊠ x ≡ whole 1)
unfolding whole
inverse_by q m c true h k x s =
    let pos = between m q (h tt) in
    let it = proper (frac c 0 (q - m)) pos in
    let by = proper (frac q m c) s.positive in
    (of it, itself (frac c 0 (q - m)) pos, ap (λ (y : Rational). of it ⊠ y) (sym s.is) ∙ sym (of_times it by) ∙ of_equal (times_p it by) (whole_p 1) (excess q m (q - m) c (add-sub_of_le (le_of_lt (h tt)))))
inverse_by q m c false h k x s =
    let pos = between q m (k tt) in
    let it = proper (frac 0 c (m - q)) pos in
    let by = proper (frac q m c) s.positive in
    (of it, itself (frac 0 c (m - q)) pos, ap (λ (y : Rational). of it ⊠ y) (sym s.is) ∙ sym (of_times it by) ∙ of_equal (times_p it by) (whole_p 1) (lack q m (m - q) c (add-sub_of_le (le_of_lt (k tt)))))

pub inverse : (y : Frac) (x : Rational) → Stands y x → T (not (is_zero y)) → (w : Rational) × Stands (inv_f y) w × (w ⊠ x ≡ whole 1)
inverse (frac q m c) x s t = inverse_by q m c (ltb m q) (ltb→lt m q) (λ z. other (nltb→le m q z) (λ e. T_not (eqb q m) t (subst (λ (n : ℕ). T (eqb q n)) e (eqb_refl q)))) x s
  where
    other : q ≤ m → (q ≡ m → ⊥) → q < m
    other l k = omega (arith, k)

pub stands_div : (x y : Frac) (a b : Rational) → Stands x a → Stands y b → T (not (is_zero y)) → (w : Rational) × Stands (div_f x y) w × (w ⊠ b ≡ a)
stands_div x y a b h k t =
    let i = inverse y b k t in
    (a ⊠ i.0, stands_mul x (inv_f y) a i.0 h i.1, times_assoc a i.0 b ∙ ap (λ (z : Rational). a ⊠ z) i.2 ∙ times_one a)

-- ---- coefficient by coefficient
pub data Stand : List Frac → List Rational → Type 0 where
  none : Stand [] []
  more : {f : Frac} {a : Rational} {p : List Frac} {q : List Rational} → Stands f a → Stand p q → Stand (f ∷ p) (a ∷ q)

pub stand_evaluated : (p : List Frac) (a : List Rational) (x : Frac) (r : Rational) → Stand p a → Stands x r → Stands (evaluated fractions p x) (evaluated rationals a r)
unfolding evaluated
stand_evaluated [] (b ∷ a) x r x7 k = elim x7 [ ]
stand_evaluated (f ∷ p) [] x r x7 k = elim x7 [ ]
stand_evaluated [] [] x r none k = stands_whole 0
stand_evaluated (f ∷ p) (b ∷ a) x r (more h hs) k = stands_add _ _ _ _ h (stands_mul _ _ _ _ k (stand_evaluated p a x r hs k))

pub stand_sum : (p q : List Frac) (a b : List Rational) → Stand p a → Stand q b → Stand (sum fractions p q) (sum rationals a b)
unfolding sum
stand_sum [] q (c ∷ a) b x4 k = elim x4 [ ]
stand_sum (f ∷ p) [] [] b x5 k = elim x5 [ ]
stand_sum (f ∷ p) [] (c ∷ a) (d ∷ b) _ k = elim k [ ]
stand_sum (f ∷ p) (g ∷ q) [] b x6 k = elim x6 [ ]
stand_sum (f ∷ p) (g ∷ q) (c ∷ a) [] _ k = elim k [ ]
stand_sum [] q [] b none k = k
stand_sum (f ∷ p) [] (c ∷ a) [] (more h hs) none = more h hs
stand_sum (f ∷ p) (g ∷ q) (c ∷ a) (d ∷ b) (more h hs) (more k ks) = more (stands_add _ _ _ _ h k) (stand_sum p q a b hs ks)

pub stand_negative : (p : List Frac) (a : List Rational) → Stand p a → Stand (negative fractions p) (negative rationals a)
unfolding negative
stand_negative [] (c ∷ a) x'' = elim x'' [ ]
stand_negative (f ∷ p) [] x3 = elim x3 [ ]
stand_negative [] [] none = none
stand_negative (f ∷ p) (c ∷ a) (more h hs) = more (stands_neg _ _ h) (stand_negative p a hs)

stand_scaled : (k : Frac) (c : Rational) (p : List Frac) (a : List Rational) → Stands k c → Stand p a → Stand (scaled fractions k p) (scaled rationals c a)
unfolding scaled
stand_scaled k c [] (d ∷ a) s x4 = elim x4 [ ]
stand_scaled k c (f ∷ p) [] s x4 = elim x4 [ ]
stand_scaled k c [] [] s none = none
stand_scaled k c (f ∷ p) (d ∷ a) s (more h hs) = more (stands_mul _ _ _ _ s h) (stand_scaled k c p a s hs)

pub stand_product : (p q : List Frac) (a b : List Rational) → Stand p a → Stand q b → Stand (product fractions p q) (product rationals a b)
unfolding product
stand_product [] q (c ∷ a) b x4 k = elim x4 [ ]
stand_product (f ∷ p) q [] b x4 k = elim x4 [ ]
stand_product [] q [] b none k = none
stand_product (f ∷ p) q (c ∷ a) b (more h hs) k = stand_sum _ _ _ _ (stand_scaled f c q b h k) (more (stands_whole 0) (stand_product p q a b hs k))

stand_counted : (n : ℕ) (p : List Frac) (a : List Rational) → Stand p a → Stand (counted fractions n p) (counted rationals n a)
unfolding counted
stand_counted n [] (c ∷ a) x'' = elim x'' [ ]
stand_counted n (f ∷ p) [] x3 = elim x3 [ ]
stand_counted n [] [] none = none
stand_counted n (f ∷ p) (c ∷ a) (more h hs) = more (stands_mul _ _ _ _ (stands_whole n) h) (stand_counted (suc n) p a hs)

pub stand_derivative : (p : List Frac) (a : List Rational) → Stand p a → Stand (derivative fractions p) (derivative rationals a)
unfolding derivative
stand_derivative [] (c ∷ a) x'' = elim x'' [ ]
stand_derivative (f ∷ p) [] x3 = elim x3 [ ]
stand_derivative [] [] none = none
stand_derivative (f ∷ p) (c ∷ a) (more h hs) = stand_counted 1 p a hs
