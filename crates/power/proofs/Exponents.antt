-- The exponent y, from - 192 to 192: its size in fixed point, and the ways of `exponentOf`. Assumes nothing.
use mathlib.Core.Path.{◌≡◌, refl, sym, ap, ◌∙◌, subst}
use mathlib.Core.Bool.{Bool, true, false, ◌&&◌, not}
use Prim.Native.Nat.{ℕ, zero, suc, ◌+◌, ◌-◌, ◌*◌, ◌/◌, ◌%◌, ◌^◌, ◌≤◌, ◌<◌}
use native.Mathlib.Nat.{le_trans, le_of_eq, le_of_lt, mul_assoc, mul_comm, mul_left_comm, mul-one, zero-mul, mul-le-mul_left, mul-le-mul_right, le_of_mul-le-mul_right, div-eq_of_lt, lt_of_lt_of_le, pow-suc}
use native.Mathlib.Omega.{arith}
use lib.IntN.{ℤ, pos}
use lib.Dec.{T, leb, eqb, lit<, lit≤}
use lib.Pow.{pow_pos, pow-add}
use lib.Ieee.{Float, fin, up, down, binary64, fits, is_nan, to_bits, of_bits, of_fields, odd, le, neg}
use Rattle.number.specs.Domain.{exponent_inside}
use Rattle.exponential.proofs.Decode.{units_of, size_by, decoded, inside_is, field_lt, size_le_of, size_lo, size_hi}
use Rattle.exponential.proofs.Argument.{digits_lt, units_le}
use Rattle.power.specs.Power.{exponent_size, exponent_of}
use Rattle.power.specs.declared.FixedExponent.{FixedExponent}

-- ---- the code's tests
-- ---- y is ± m 2 ^ e, at most 192 in size
limit_is : of_bits binary64 0x4068_0000_0000_0000 ≡ fin false 3 (pos 6)
unfolding of_bits of_fields odd
limit_is = refl

pub finite_is : (y : Float) → T (exponent_inside y) → (s : Bool) × (m : ℕ) × (e : ℤ) × (y ≡ fin s m e) × (m * up e ≤ 192 * down e)
unfolding exponent_inside
finite_is y h = go (inside_is y 3 (pos 6) (subst (λ (l : Float). T (le (neg l) y && le y l)) limit_is h))
  where
    go : (s : Bool) × (m : ℕ) × (e : ℤ) × (y ≡ fin s m e) × (m * up e * 1 ≤ 192 * down e) → (s : Bool) × (m : ℕ) × (e : ℤ) × (y ≡ fin s m e) × (m * up e ≤ 192 * down e)
    go (s, m, e, p, q) = (s, m, e, p, subst (λ (x : ℕ). x ≤ 192 * down e) (mul-one (m * up e)) q)

pub no_nan : (y : Float) → T (exponent_inside y) → T (not (is_nan y))
unfolding is_nan
no_nan y h = go (finite_is y h)
  where
    go : (s : Bool) × (m : ℕ) × (e : ℤ) × (y ≡ fin s m e) × (m * up e ≤ 192 * down e) → T (not (is_nan y))
    go (s, m, e, p, q) = subst (λ (x : Float). T (not (is_nan x))) (sym p) tt

-- ---- the size in units of 2 ^ -56 is that of 4 |y| in units of 2 ^ -54, whose exponent's field is larger by 2
abbrev field_of : ℕ → ℕ
field_of b = b / 4503599627370496 % 2048

abbrev digits_of : ℕ → ℕ
digits_of b = b % 4503599627370496

four_times : (i t : ℕ) → units_of (suc (suc (suc i))) t ≡ 4 * units_of (suc i) t
four_times i t = ap (λ (x : ℕ). (4503599627370496 + t) * x) (pow-suc 2 (suc i) ∙ ap (λ (x : ℕ). x * 2) (pow-suc 2 i)) ∙ go (4503599627370496 + t) (2 ^ i) 2
  where
    go : (a b c : ℕ) → a * (b * c * c) ≡ c * c * (a * b)
    go a b c = simp (mul_assoc, mul_comm, mul_left_comm)

units_small : (f t : ℕ) → t < 4503599627370496 → units_of f t ≤ 192 * 2 ^ 1074 → units_of (suc (suc f)) t ≤ 768 * 2 ^ 1074
units_small zero t k h = le_trans (mul-le-mul_right (2 ^ 1) (twice t k)) (lit≤ tt)
  where
    twice : (t : ℕ) → t < 4503599627370496 → 4503599627370496 + t ≤ 2 ^ 53
    twice t k = omega arith
units_small (suc i) t k h = le_trans (le_of_eq (four_times i t)) (le_trans (mul-le-mul_left 4 h) (le_of_eq (sym (mul_assoc 4 192 (2 ^ 1074)))))

none : (t : ℕ) → t < 4503599627370496 → size_by 2 t ≡ 0
none t k = div-eq_of_lt (lt_of_lt_of_le (wide t k) (lit≤ tt))
  where
    wide : (t : ℕ) → t < 4503599627370496 → (t + 4503599627370496) * 2048 < 2 ^ 64
    wide t k = omega arith

lo : (f t : ℕ) → suc (suc f) < 1033 → t < 4503599627370496 → size_by (suc (suc f)) t * 2 ^ 1020 ≤ 4 * units_of f t
lo zero t h k = le_trans (le_of_eq (ap (λ (x : ℕ). x * 2 ^ 1020) (none t k) ∙ zero-mul (2 ^ 1020))) (least (4 * (t * 2 ^ 0)))
  where
    least : (x : ℕ) → 0 ≤ x
    least x = omega arith
lo (suc i) t h k = le_trans (size_lo (suc (suc (suc i))) t h k) (le_of_eq (four_times i t))

hi : (f t : ℕ) → suc (suc f) < 1033 → t < 4503599627370496 → 4 * units_of f t ≤ (size_by (suc (suc f)) t + 1) * 2 ^ 1020
hi zero t h k = le_trans (mul-le-mul_left 4 (le_trans (le_of_eq (mul-one t)) (le_of_lt k))) (le_trans (lit≤ tt) (mul-le-mul_right (2 ^ 1020) (least (size_by 2 t))))
  where
    least : (x : ℕ) → 1 ≤ x + 1
    least x = omega arith
hi (suc i) t h k = le_trans (le_of_eq (sym (four_times i t))) (size_hi (suc (suc (suc i))) t h k)

shift_is : (b : ℕ) → size_by (suc (suc (field_of b))) (digits_of b) ≡ exponent_size b
shift_is b = ap (λ (x : ℕ). (b % 2 ^ 52 + 2 ^ 52) * 2048 / 2 ^ x) (lin (b / 2 ^ 52 % 2048))
  where
    lin : (f : ℕ) → 1032 - suc (suc f) ≡ 1030 - f
    lin f = omega arith

-- ---- of the bits of y
module _ (s : Bool) (m : ℕ) (e : ℤ) (fits₁ : T (fits binary64 (fin s m e))) (bound : m * up e ≤ 192 * down e) where
  abbrev b : ℕ
  b = to_bits binary64 (fin s m e)

  pub sign_is : s ≡ leb 9223372036854775808 b
  sign_is = (decoded s m e fits₁ b refl).0.0

  units_is : m * up e * 2 ^ 1074 ≡ units_of (field_of b) (digits_of b) * down e
  units_is = (decoded s m e fits₁ b refl).0.1

  units_bound : units_of (suc (suc (field_of b))) (digits_of b) ≤ 768 * 2 ^ 1074
  units_bound = units_small (field_of b) (digits_of b) (digits_lt b) (units_le 192 m e (units_of (field_of b) (digits_of b)) units_is bound)

  field_ok : suc (suc (field_of b)) < 1033
  field_ok = field_lt 768 (suc (suc (field_of b))) (digits_of b) (lit< tt) (digits_lt b) units_bound

  -- the size in fixed point: at most 192, and |y| rounded down
  pub size_le : exponent_size b ≤ 192 * 2 ^ 56
  size_le = subst (λ (x : ℕ). x ≤ 192 * 2 ^ 56) (shift_is b) (le_trans (size_le_of 768 (suc (suc (field_of b))) (digits_of b) (lit< tt) (digits_lt b) units_bound) (lit≤ tt))

  whole_split : 4 * (m * up e * 2 ^ 1074) ≡ m * up e * 2 ^ 56 * 2 ^ 1020
  whole_split = mul_left_comm 4 (m * up e) (2 ^ 1074) ∙ ap (λ (z : ℕ). m * up e * z) (ap (λ (z : ℕ). 4 * z) (pow-add 2 54 1020) ∙ sym (mul_assoc 4 (2 ^ 54) (2 ^ 1020))) ∙ sym (mul_assoc (m * up e) (2 ^ 56) (2 ^ 1020))

  turn : (x d : ℕ) → x * 2 ^ 1020 * d ≡ x * d * 2 ^ 1020
  turn x d = simp (mul_assoc, mul_comm)

  four_units : 4 * units_of (field_of b) (digits_of b) * down e ≡ m * up e * 2 ^ 56 * 2 ^ 1020
  four_units = mul_assoc 4 (units_of (field_of b) (digits_of b)) (down e) ∙ ap (λ (z : ℕ). 4 * z) (sym units_is) ∙ whole_split

  pub size_below : exponent_size b * down e ≤ m * up e * 2 ^ 56
  size_below =
      subst (λ (x : ℕ). x * down e ≤ m * up e * 2 ^ 56) (shift_is b)
      (le_of_mul-le-mul_right {k = 2 ^ 1020} (le_trans (le_of_eq (sym (turn (size_by (suc (suc (field_of b))) (digits_of b)) (down e)))) (le_trans (mul-le-mul_right (down e) (lo (field_of b) (digits_of b) field_ok (digits_lt b))) (le_of_eq four_units))) (pow_pos 1020))

  pub size_above : m * up e * 2 ^ 56 ≤ (exponent_size b + 1) * down e
  size_above =
      subst (λ (x : ℕ). m * up e * 2 ^ 56 ≤ (x + 1) * down e) (shift_is b)
      (le_of_mul-le-mul_right {k = 2 ^ 1020} (le_trans (le_of_eq (sym four_units)) (le_trans (mul-le-mul_right (down e) (hi (field_of b) (digits_of b) field_ok (digits_lt b))) (le_of_eq (turn (size_by (suc (suc (field_of b))) (digits_of b) + 1) (down e))))) (pow_pos 1020))

pub field_le : (y : Float) → T (fits binary64 y) → T (exponent_inside y) → to_bits binary64 y / 4503599627370496 % 2048 ≤ 1030
field_le y f h = go (finite_is y h)
  where
    less : {n : ℕ} → suc (suc n) < 1033 → n ≤ 1030
    less h = omega arith

    go : (s : Bool) × (m : ℕ) × (e : ℤ) × (y ≡ fin s m e) × (m * up e ≤ 192 * down e) → to_bits binary64 y / 4503599627370496 % 2048 ≤ 1030
    go (s, m, e, p, q) = subst (λ (x : Float). to_bits binary64 x / 4503599627370496 % 2048 ≤ 1030) (sym p) (less (field_ok s m e (subst (λ (x : Float). T (fits binary64 x)) p f) q))

-- ---- the ways of the definition, t being the test's answer
module _ (y : Float) (t : Bool) (is : t ≡ exponent_inside y) where
  pub accepted : t ≡ true → T (exponent_inside y)
  accepted h = subst T (sym h ∙ is) tt

  pub outside_is : t ≡ false → ◌≡◌ {A = FixedExponent} (record { size = 0; negative = false; one = false }) (exponent_of y)
  unfolding exponent_of
  outside_is h = rw (← is, h)

  pub value_is : (n : ℕ) → t ≡ true → n ≡ exponent_size (to_bits binary64 y) → ◌≡◌ {A = FixedExponent} (record { size = n; negative = leb (2 ^ 63) (to_bits binary64 y); one = eqb (to_bits binary64 y) 0x3ff0_0000_0000_0000 }) (exponent_of y)
  unfolding exponent_of
  value_is n h p = rw (← is, h, p)
