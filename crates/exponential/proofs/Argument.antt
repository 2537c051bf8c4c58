-- The exponential's argument x, from - 700 to 700: its size over ln 2 in fixed point. Assumes nothing.
use mathlib.Core.Path.{◌≡◌, refl, sym, ap, ap₂, ◌∙◌, subst}
use mathlib.Core.Bool.{Bool, true, false, ◌&&◌, not}
use Prim.Native.Nat.{ℕ, ◌+◌, ◌-◌, ◌*◌, ◌/◌, ◌%◌, ◌^◌, ◌≤◌, ◌<◌}
use native.Mathlib.Nat.{le_trans, le_of_eq, mul_assoc, mul_comm, mul_left_comm, mul-one, mul-le-mul_right, le_of_mul-le-mul_right, not-le_of_lt, div-le_of_le-mul}
use native.Mathlib.Omega.{arith}
use lib.IntN.{ℤ, pos}
use lib.Dec.{T, leb, leb→le, le→leb, not_T, lit<, lit≤}
use lib.Ieee.{Float, fin, up, down, binary64, fits, is_nan, to_bits, of_bits, of_fields, odd, le, neg}
use lib.Ieee.Bits.{is_true, is_false}
use lib.Ieee.Fits.{down_pos}
use Rattle.number.specs.Ans.{held, refused}
use Rattle.number.specs.Domain.{exp_inside}
use Rattle.fixed_point.specs.Fields.{exponent_field, significand}
use Rattle.exponential.specs.Raise.{raise_of}
use Rattle.exponential.specs.Exp.{binary_of, exponent_at, binary_exponent_of, exp_of}
use Rattle.exponential.proofs.Decode.{units_of, decoded, inside_is, field_lt, size_le_of}

seven_hundred : of_bits binary64 0x4085_e000_0000_0000 ≡ fin false 175 (pos 2)
unfolding of_bits of_fields odd
seven_hundred = refl

-- the size that the code shifts from the fields of b
pub size_is : (b m f n k s : ℕ) → m ≡ significand b → f ≡ exponent_field b → n ≡ k - f → s ≡ m * 2048 / 2 ^ n → s ≡ significand b * 2048 / 2 ^ (k - exponent_field b)
size_is b m f n k s p q r e = e ∙ ap₂ (λ (x y : ℕ). x * 2048 / 2 ^ y) p (r ∙ ap (λ (x : ℕ). k - x) q)

-- x is ± m 2 ^ e, at most 700 in size
pub exp_inside_is : (x : Float) → T (exp_inside x) → (s : Bool) × (m : ℕ) × (e : ℤ) × (x ≡ fin s m e) × (m * up e ≤ 700 * down e)
unfolding exp_inside
exp_inside_is x h = go (inside_is x 175 (pos 2) (subst (λ (y : Float). T (le (neg y) x && le x y)) seven_hundred h))
  where
    go : (s : Bool) × (m : ℕ) × (e : ℤ) × (x ≡ fin s m e) × (m * up e * 1 ≤ 700 * down e) → (s : Bool) × (m : ℕ) × (e : ℤ) × (x ≡ fin s m e) × (m * up e ≤ 700 * down e)
    go (s, m, e, p, q) = (s, m, e, p, subst (λ (y : ℕ). y ≤ 700 * down e) (mul-one (m * up e)) q)

-- the size in units of 2 ^ -1074, from the value's
pub units_le : (n m : ℕ) (e : ℤ) (u : ℕ) → m * up e * 2 ^ 1074 ≡ u * down e → m * up e ≤ n * down e → u ≤ n * 2 ^ 1074
units_le n m e u h k = le_of_mul-le-mul_right {k = down e} (le_trans (le_of_eq (sym h)) (le_trans (mul-le-mul_right (2 ^ 1074) k) (le_of_eq (turn n (down e) (2 ^ 1074))))) (down_pos e)
  where
    turn : (a b c : ℕ) → a * b * c ≡ a * c * b
    turn a b c = simp (mul_assoc, mul_comm, mul_left_comm)

pub digits_lt : (b : ℕ) → b % 4503599627370496 < 4503599627370496
digits_lt b = omega arith

-- ---- what the code needs
pub no_nan : (x : Float) → T (exp_inside x) → T (not (is_nan x))
unfolding is_nan
no_nan x h = go (exp_inside_is x h)
  where
    go : (s : Bool) × (m : ℕ) × (e : ℤ) × (x ≡ fin s m e) × (m * up e ≤ 700 * down e) → T (not (is_nan x))
    go (s, m, e, p, q) = subst (λ (y : Float). T (not (is_nan y))) (sym p) tt

-- the size in units of 2 ^ -1074 is at most 700
bits_le : (x : Float) → T (fits binary64 x) → T (exp_inside x) → (b : ℕ) → b ≡ to_bits binary64 x → units_of (b / 4503599627370496 % 2048) (b % 4503599627370496) ≤ 700 * 2 ^ 1074
bits_le x f h b q = go (exp_inside_is x h)
  where
    go : (s : Bool) × (m : ℕ) × (e : ℤ) × (x ≡ fin s m e) × (m * up e ≤ 700 * down e) → units_of (b / 4503599627370496 % 2048) (b % 4503599627370496) ≤ 700 * 2 ^ 1074
    go (s, m, e, p, k) = units_le 700 m e (units_of (b / 4503599627370496 % 2048) (b % 4503599627370496)) (decoded s m e (subst (λ (y : Float). T (fits binary64 y)) p f) b (subst (λ (y : Float). b ≡ to_bits binary64 y) p q)).0.1 k

pub field_le : (x : Float) → T (fits binary64 x) → T (exp_inside x) → (b : ℕ) → b ≡ to_bits binary64 x → b / 4503599627370496 % 2048 ≤ 1032
field_le x f h b q = less (field_lt 700 (b / 4503599627370496 % 2048) (b % 4503599627370496) (lit< tt) (digits_lt b) (bits_le x f h b q))
  where
    less : {n : ℕ} → n < 1033 → n ≤ 1032
    less h = omega arith

-- 700 / ln 2 is below 1010
pub binary_le : (x : Float) → T (fits binary64 x) → T (exp_inside x) → (b : ℕ) → b ≡ to_bits binary64 x → binary_of b ≤ 1010 * 2 ^ 53
binary_le x f h b q = div-le_of_le-mul (2 ^ 64) (le_trans (mul-le-mul_right 13306513097844322491 (size_le_of 700 (b / 4503599627370496 % 2048) (b % 4503599627370496) (lit< tt) (digits_lt b) (bits_le x f h b q))) (lit≤ tt))

-- ---- the code's tests
-- ---- the code's two ways
module _ (b v : ℕ) (is : v ≡ binary_of b) where
  pub negative_at : 2 ^ 63 ≤ b → 1023 * 2 ^ 53 - v ≡ exponent_at b
  unfolding exponent_at
  negative_at h = rw (is_true (leb (2 ^ 63) b) (le→leb (2 ^ 63) b h), is)

  pub positive_at : b < 2 ^ 63 → 1023 * 2 ^ 53 + v ≡ exponent_at b
  unfolding exponent_at
  positive_at h = rw (is_false (leb (2 ^ 63) b) (not_T (leb (2 ^ 63) b) (λ (u : T (leb (2 ^ 63) b)). not-le_of_lt h (leb→le (2 ^ 63) b u))), is)

pub down_range : (v : ℕ) → v ≤ 1010 * 2 ^ 53 → (2 ^ 53 ≤ 1023 * 2 ^ 53 - v) × (1023 * 2 ^ 53 - v < 2046 * 2 ^ 53)
down_range v h = (omega arith, omega arith)

pub up_range : (v : ℕ) → v ≤ 1010 * 2 ^ 53 → (2 ^ 53 ≤ 1023 * 2 ^ 53 + v) × (1023 * 2 ^ 53 + v < 2046 * 2 ^ 53)
up_range v h = (omega arith, omega arith)

-- ---- the answer
module _ (x : Float) (t : Bool) (is : t ≡ exp_inside x) where
  pub value_is : (w : ℕ) (v : Float) → t ≡ true → w ≡ binary_exponent_of x → v ≡ raise_of w → held v ≡ exp_of x
  unfolding exp_of
  value_is w v h p q = rw (← is, h, q, p)

  pub outside_is : t ≡ false → refused 6 ≡ exp_of x
  unfolding exp_of
  outside_is h = rw (← is, h)

  pub accepted : t ≡ true → T (exp_inside x)
  accepted h = subst T (sym h ∙ is) tt
