-- An f64 by its bits: its sign, the rest of its bits, and its size in units of 2 ^ -1074; a bound on the value is one on the bits. Assumes nothing.
use mathlib.Core.Path.{◌≡◌, refl, sym, ap, ◌∙◌, subst}
use mathlib.Core.Bool.{Bool, true, false, ◌&&◌, ◌||◌, cond}
use Prim.Native.Nat.{ℕ, zero, suc, ◌+◌, ◌-◌, ◌*◌, ◌/◌, ◌%◌, ◌^◌, ◌≤◌, ◌<◌}
use native.Mathlib.Nat.{le_trans, le_of_eq, le_of_lt, lt_of_not-le, not-le_of_lt, mul_comm, mul_assoc, mul_left_comm, mul-one, mul-le-mul_right, mul-lt-mul_of_pos_right, le_of_mul-le-mul_right, zero-mul, one-mul, add-mul, add_comm, div-mul-le_self, lt-div-mul-add, div-eq_of_lt, lt_of_lt_of_le, not-suc-le-zero, le_of_suc-le-suc, mul-le-mul}
use native.Mathlib.Decide.{dec_le}
use native.Mathlib.Omega.{arith}
use lib.IntN.{ℤ}
use lib.Dec.{T, leb, ltb, eqb, ltb→lt, eqb→eq, lit<, lit≤}
use lib.Pow.{pow_pos, pow-add, pow_mono}
use lib.Ieee.{Float, nan, inf, fin, up, down, binary64, fits, to_bits, of_bits, of_fields, odd, le, lt, eq, neg}
use lib.Ieee.Bits.{of_bits-to_bits}
use lib.Ieee.Exact.{HasValue, odd_sign}
use lib.Ieee.Fits.{and_l, and_r, eq→eqb}
use Rattle.fixed_point.proofs.Patterns64.{of_bits_is}

-- ---- what is between - n and n, both floats
pub or_le : (a b : ℕ) (c : Bool) → T (ltb a b || (eqb a b && c)) → a ≤ b
or_le a b c h = go (ltb a b) refl h
  where
    go : (t : Bool) → t ≡ ltb a b → T (t || (eqb a b && c)) → a ≤ b
    go true p h = le_of_lt (ltb→lt a b (subst T p tt))
    go false p h = le_of_eq (eqb→eq a b (and_l (eqb a b) c h))

or_ge : (a b : ℕ) (c : Bool) → T (ltb b a || (eqb a b && c)) → b ≤ a
or_ge a b c h = go (ltb b a) refl h
  where
    go : (t : Bool) → t ≡ ltb b a → T (t || (eqb a b && c)) → b ≤ a
    go true p h = le_of_lt (ltb→lt b a (subst T p tt))
    go false p h = le_of_eq (sym (eqb→eq a b (and_l (eqb a b) c h)))

pub size_le : (s : Bool) (m : ℕ) (e : ℤ) (n : ℕ) (d : ℤ) → T (le (neg (fin false n d)) (fin s m e)) → T (le (fin s m e) (fin false n d)) → m * up e * down d ≤ n * up d * down e
unfolding le lt eq neg
size_le false m e n d h k = or_le (m * up e * down d) (n * up d * down e) _ k
size_le true m e n d h k = or_ge (n * up d * down e) (m * up e * down d) _ h

-- ---- the fields of the bits
-- the size in units of 2 ^ -1074, by the exponent's field and the digits
abbrev pub units_of : ℕ → ℕ → ℕ
units_of zero t = t * 2 ^ 0
units_of (suc k) t = (4503599627370496 + t) * 2 ^ k

-- x is finite, with this sign and size
fields_are : (g : Bool) (f t : ℕ) (s : Bool) (m : ℕ) (e : ℤ) → f ≤ 2047 → of_fields binary64 g f t ≡ fin s m e → HasValue (fin s m e) g (units_of f t) (2 ^ 1074) × (f < 2047)
unfolding of_fields
fields_are g zero t s m e h q = (subst (λ (x : Float). HasValue x g (t * 2 ^ 0) (2 ^ 1074)) q (odd_sign 53 g t 0 1074), lit< tt)
fields_are g (suc k) t s m e h q = go (eqb (suc k) 2047) refl q
  where
    go : (y : Bool) → y ≡ eqb (suc k) 2047 → cond y (cond (eqb t 0) (inf g) nan) (odd 53 g (4503599627370496 + t) k 1074) ≡ fin s m e → HasValue (fin s m e) g (units_of (suc k) t) (2 ^ 1074) × (suc k < 2047)
    go true p q = absurd (not_finite (eqb t 0) q)
      where
        not_finite : (z : Bool) → cond z (inf g) nan ≡ fin s m e → ⊥
        not_finite true q = let z : ◌≡◌ {A = ℕ} 0 1 = cc in omega arith
        not_finite false q = let z : ◌≡◌ {A = ℕ} 0 1 = cc in omega arith
    go false p q = (subst (λ (x : Float). HasValue x g ((4503599627370496 + t) * 2 ^ k) (2 ^ 1074)) q (odd_sign 53 g (4503599627370496 + t) k 1074), less (suc k) h (λ (u : suc k ≡ 2047). subst T (sym p) (eq→eqb u)))
      where
        less : (n : ℕ) → n ≤ 2047 → (n ≡ 2047 → ⊥) → n < 2047
        less n h k = omega arith

pub decoded : (s : Bool) (m : ℕ) (e : ℤ) → T (fits binary64 (fin s m e)) → (b : ℕ) → b ≡ to_bits binary64 (fin s m e)
    → HasValue (fin s m e) (leb 9223372036854775808 b) (units_of (b / 4503599627370496 % 2048) (b % 4503599627370496)) (2 ^ 1074) × (b / 4503599627370496 % 2048 < 2047)
decoded s m e h b q =
    subst (λ (f : ℕ). HasValue (fin s m e) (leb 9223372036854775808 b) (units_of f (b % 4503599627370496)) (2 ^ 1074) × (f < 2047)) (same b)
    (fields_are (leb 9223372036854775808 b) (b % 9223372036854775808 / 4503599627370496) (b % 4503599627370496) s m e (top b)
    (sym (of_bits_is b) ∙ ap (λ (n : ℕ). of_bits binary64 n) q ∙ of_bits-to_bits binary64 (fin s m e) h))
  where
    same : (b : ℕ) → b % 9223372036854775808 / 4503599627370496 ≡ b / 4503599627370496 % 2048
    same b = omega arith

    top : (b : ℕ) → b % 9223372036854775808 / 4503599627370496 ≤ 2047
    top b = omega arith

-- ---- the size in units of 2 ^ -54, rounded down: c is 2 ^ 11, p r = 2 ^ 1031 = u c
module _ (z p r u c : ℕ) (e : p * r ≡ u * c) (P : 0 < p) (C : 0 < c) where
  floor_lo : z * c / p * u ≤ z * r
  floor_lo = le_of_mul-le-mul_right {k = c} (le_trans (le_of_eq (a (z * c / p))) (le_trans (mul-le-mul_right r (div-mul-le_self (z * c) p)) (le_of_eq b))) C
    where
      a : (q : ℕ) → q * u * c ≡ q * p * r
      a q = mul_assoc q u c ∙ ap (λ (x : ℕ). q * x) (sym e) ∙ sym (mul_assoc q p r)

      b : z * c * r ≡ z * r * c
      b = simp (mul_assoc, mul_comm, mul_left_comm)

  floor_hi : z * r ≤ (z * c / p + 1) * u
  floor_hi = le_of_mul-le-mul_right {k = c} (le_trans (le_of_eq b) (le_trans (mul-le-mul_right r (le_trans (le_of_lt (lt-div-mul-add {a = z * c} {b = p} P)) (le_of_eq (one (z * c / p))))) (le_of_eq (a (z * c / p + 1))))) C
    where
      a : (q : ℕ) → q * p * r ≡ q * u * c
      a q = mul_assoc q p r ∙ ap (λ (x : ℕ). q * x) e ∙ sym (mul_assoc q u c)

      b : z * r * c ≡ z * c * r
      b = simp (mul_assoc, mul_comm, mul_left_comm)

      one : (q : ℕ) → q * p + p ≡ (q + 1) * p
      one q = simp (add-mul, one-mul)

shift_splits : (i : ℕ) → suc i < 1033 → 2 ^ (1032 - suc i) * 2 ^ i ≡ 2 ^ 1020 * 2048
shift_splits i h = sym (pow-add 2 (1032 - suc i) i) ∙ ap (λ (x : ℕ). 2 ^ x) (lin i h) ∙ pow-add 2 1020 11
  where
    lin : (i : ℕ) → suc i < 1033 → 1032 - suc i + i ≡ 1020 + 11
    lin i h = omega arith

-- in terms of the fields
abbrev pub size_by : ℕ → ℕ → ℕ
size_by f t = (t + 4503599627370496) * 2048 / 2 ^ (1032 - f)

pub size_lo : (f t : ℕ) → f < 1033 → t < 4503599627370496 → size_by f t * 2 ^ 1020 ≤ units_of f t
size_lo zero t h k = le_trans (le_of_eq (ap (λ (x : ℕ). x * 2 ^ 1020) (none t k) ∙ zero-mul (2 ^ 1020))) (least (t * 2 ^ 0))
  where
    none : (t : ℕ) → t < 4503599627370496 → size_by 0 t ≡ 0
    none t k = div-eq_of_lt (lt_of_lt_of_le (wide t k) (lit≤ tt))
      where
        wide : (t : ℕ) → t < 4503599627370496 → (t + 4503599627370496) * 2048 < 2 ^ 64
        wide t k = omega arith

    least : (x : ℕ) → 0 ≤ x
    least x = omega arith
size_lo (suc i) t h k = le_trans (floor_lo (t + 4503599627370496) (2 ^ (1032 - suc i)) (2 ^ i) (2 ^ 1020) 2048 (shift_splits i h) (pow_pos (1032 - suc i)) (lit< tt)) (le_of_eq (ap (λ (x : ℕ). x * 2 ^ i) (add_comm t 4503599627370496)))

pub size_hi : (f t : ℕ) → f < 1033 → t < 4503599627370496 → units_of f t ≤ (size_by f t + 1) * 2 ^ 1020
size_hi zero t h k = le_trans (le_of_eq (mul-one t)) (le_trans (le_of_lt k) (le_trans (lit≤ tt) (mul-le-mul_right (2 ^ 1020) (least (size_by 0 t)))))
  where
    least : (x : ℕ) → 1 ≤ x + 1
    least x = omega arith
size_hi (suc i) t h k = le_trans (le_of_eq (ap (λ (x : ℕ). x * 2 ^ i) (add_comm 4503599627370496 t))) (floor_hi (t + 4503599627370496) (2 ^ (1032 - suc i)) (2 ^ i) (2 ^ 1020) 2048 (shift_splits i h) (pow_pos (1032 - suc i)) (lit< tt))

-- ---- a size of at most n: the exponent's field, and the size in units of 2 ^ -54
module _ (n f t : ℕ) (small : n < 1024) (digits : t < 4503599627370496) (bound : units_of f t ≤ n * 2 ^ 1074) where
  pub field_lt : f < 1033
  field_lt = go f bound (dec_le 1033 f)
    where
      less : (a b : ℕ) → 1024 * a ≤ b → b ≤ n * a → 0 < a → ⊥
      less a b h k p = not-le_of_lt (mul-lt-mul_of_pos_right {k = a} small p) (le_trans h k)

      go : (f : ℕ) → units_of f t ≤ n * 2 ^ 1074 → Dec (1033 ≤ f) → f < 1033
      go f h (no k) = lt_of_not-le k
      go zero h (yes k) = absurd (not-suc-le-zero k)
      go (suc i) h (yes k) = absurd (less (2 ^ 1074) ((4503599627370496 + t) * 2 ^ i) (le_trans (lit≤ tt) (mul-le-mul (over t) (pow_mono (le_of_suc-le-suc k)))) h (pow_pos 1074))
        where
          over : (t : ℕ) → 4503599627370496 ≤ 4503599627370496 + t
          over t = omega arith

  pub size_le_of : size_by f t ≤ n * 2 ^ 54
  size_le_of = le_of_mul-le-mul_right {k = 2 ^ 1020} (le_trans (size_lo f t field_lt digits) (le_trans bound (le_of_eq (ap (λ (x : ℕ). n * x) (pow-add 2 54 1020) ∙ sym (mul_assoc n (2 ^ 54) (2 ^ 1020)))))) (pow_pos 1020)

-- ---- an f64 from - n to n
-- what the code's tests say of x: it is finite, and its size is at most n 2 ^ d
pub inside_is : (x : Float) (n : ℕ) (d : ℤ) → T (le (neg (fin false n d)) x && le x (fin false n d)) → (s : Bool) × (m : ℕ) × (e : ℤ) × (x ≡ fin s m e) × (m * up e * down d ≤ n * up d * down e)
unfolding le lt eq neg
inside_is nan n d h = absurd h
inside_is (inf false) n d h = absurd h
inside_is (inf true) n d h = absurd h
inside_is (fin s m e) n d h = (s, m, e, refl, size_le s m e n d (and_l (le (neg (fin false n d)) (fin s m e)) (le (fin s m e) (fin false n d)) h) (and_r (le (neg (fin false n d)) (fin s m e)) (le (fin s m e) (fin false n d)) h))
