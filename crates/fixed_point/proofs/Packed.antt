-- What `packed` stands for, and that it is within 2 ^ -53 of what it was made of. Assumes nothing.
use mathlib.Core.Path.{◌≡◌, sym, ap, ◌∙◌, subst}
use mathlib.Core.Bool.{Bool, true, false, not}
use Rattle.std.specs.Int.{from_bool}
use Prim.Native.Nat.{ℕ, suc, ◌+◌, ◌-◌, ◌*◌, ◌/◌, ◌%◌, ◌^◌, ◌≤◌, ◌<◌}
use native.Mathlib.Nat.{le_trans, le_of_eq, lt_of_lt_of_le, mul-le-mul_right, mul_assoc, mod-eq_of_lt}
use native.Mathlib.Omega.{arith}
use lib.Dec.{T}
use lib.Pow.{pow-add, shl_lt}
use lib.Count.{count_leading_zeros, leading_top}
use lib.Ieee.{binary64, of_bits, nan_bits}
use lib.Ieee.Exact.{HasValue}
use Rattle.fixed_point.specs.Pack.{packed}
use Rattle.fixed_point.proofs.Horner.{ac}
use Rattle.fixed_point.proofs.Patterns64.{sign_bit, pack_value, pack_no_nan, near_lo, near_hi, near_up, near_down}

module _ (y : ℕ) (positive : 0 < y) (fits : y < 2 ^ 64) where
  pub zeros_lt : count_leading_zeros 64 y < 64
  zeros_lt = go (count_leading_zeros 64 y) (leading_top 64 y positive fits)
    where
      go : (l : ℕ) → (j : ℕ) × (l + suc j ≡ 64) × (2 ^ j ≤ y) × (y < 2 ^ suc j) → l < 64
      go l (j, e, a, b) = omega arith

  pub top_lo : 2 ^ 63 ≤ y * 2 ^ count_leading_zeros 64 y
  top_lo = go (count_leading_zeros 64 y) (leading_top 64 y positive fits)
    where
      sum : (l j : ℕ) → l + suc j ≡ 64 → j + l ≡ 63
      sum l j e = omega arith

      go : (l : ℕ) → (j : ℕ) × (l + suc j ≡ 64) × (2 ^ j ≤ y) × (y < 2 ^ suc j) → 2 ^ 63 ≤ y * 2 ^ l
      go l (j, e, a, b) = le_trans (le_of_eq (ap (λ (x : ℕ). 2 ^ x) (sym (sum l j e)) ∙ pow-add 2 j l)) (mul-le-mul_right (2 ^ l) a)

  pub top_hi : y * 2 ^ count_leading_zeros 64 y < 2 ^ 64
  top_hi = go (count_leading_zeros 64 y) (leading_top 64 y positive fits)
    where
      sum : (l j : ℕ) → l + suc j ≡ 64 → suc j + l ≡ 64
      sum l j e = omega arith

      go : (l : ℕ) → (j : ℕ) × (l + suc j ≡ 64) × (2 ^ j ≤ y) × (y < 2 ^ suc j) → y * 2 ^ l < 2 ^ 64
      go l (j, e, a, b) = lt_of_lt_of_le (shl_lt (suc j) l b) (le_of_eq (ap (λ (x : ℕ). 2 ^ x) (sum l j e)))

-- 53 bits of y, and the number that is packed in units of 2 ^ -1074
abbrev pub kept : ℕ → ℕ
kept y = (y * 2 ^ count_leading_zeros 64 y / 1024 + 1) / 2

abbrev pub size : ℕ → ℕ → ℕ
size y e = kept y * 2 ^ (e - count_leading_zeros 64 y)

module _ (s : Bool) (y e : ℕ) (positive : 0 < y) (fits : y < 2 ^ 64) (wide : e ≤ 2044) where
  field_le : e - count_leading_zeros 64 y ≤ 2044
  field_le = go e (count_leading_zeros 64 y) wide
    where
      go : (e l : ℕ) → e ≤ 2044 → e - l ≤ 2044
      go e l h = omega arith

  kept_lo : 4503599627370496 ≤ kept y
  kept_lo = near_lo (y * 2 ^ count_leading_zeros 64 y) (top_lo y positive fits)

  kept_hi : kept y ≤ 9007199254740992
  kept_hi = near_hi (y * 2 ^ count_leading_zeros 64 y) (top_hi y positive fits)

  pattern_is : sign_bit s + ((e - count_leading_zeros 64 y) * 4503599627370496 + kept y) ≡ from_bool s * 2 ^ 63 + (e - count_leading_zeros 64 y) * 2 ^ 52 + kept y
  pattern_is = go s (e - count_leading_zeros 64 y) (kept y)
    where
      go : (s : Bool) (f m : ℕ) → sign_bit s + (f * 4503599627370496 + m) ≡ from_bool s * 2 ^ 63 + f * 2 ^ 52 + m
      go false f m = omega arith
      go true f m = omega arith

  pub packed_value : HasValue (packed (from_bool s) y e) s (size y e) (2 ^ 1074)
  unfolding packed
  packed_value = subst (λ (b : ℕ). HasValue (of_bits binary64 b) s (size y e) (2 ^ 1074)) pattern_is (pack_value s (e - count_leading_zeros 64 y) (kept y) field_le kept_lo kept_hi)

  no_nan : T (not (nan_bits binary64 (from_bool s * 2 ^ 63 + (e - count_leading_zeros 64 y) * 2 ^ 52 + kept y)))
  no_nan = subst (λ (b : ℕ). T (not (nan_bits binary64 b))) pattern_is (pack_no_nan s (e - count_leading_zeros 64 y) (kept y) field_le kept_lo kept_hi)

-- as the program has it
pub packed_no_nan : (negative : Bool) (y e : ℕ) → 0 < y → y < 2 ^ 64 → e ≤ 2044 → T (not (nan_bits binary64 (from_bool negative * 2 ^ 63 + (e - count_leading_zeros 64 y) * 2 ^ 52 + kept y)))
packed_no_nan false y e p f w = no_nan false y e p f w
packed_no_nan true y e p f w = no_nan true y e p f w

pub shifted : (y : ℕ) → 0 < y → y < 2 ^ 64 → (y * 2 ^ count_leading_zeros 64 y) % 2 ^ 64 ≡ y * 2 ^ count_leading_zeros 64 y
shifted y p f = mod-eq_of_lt (top_hi y p f)

module _ (y e : ℕ) (positive : 0 < y) (fits : y < 2 ^ 64) (room : 64 ≤ e) where
  moved : y * 2 ^ count_leading_zeros 64 y * 2 ^ (e - count_leading_zeros 64 y) ≡ y * 2 ^ e
  moved =
      mul_assoc y (2 ^ count_leading_zeros 64 y) (2 ^ (e - count_leading_zeros 64 y))
      ∙ ap (λ (x : ℕ). y * x) (sym (pow-add 2 (count_leading_zeros 64 y) (e - count_leading_zeros 64 y)))
      ∙ ap (λ (x : ℕ). y * 2 ^ x) (go (count_leading_zeros 64 y) (zeros_lt y positive fits))
    where
      go : (l : ℕ) → l < 64 → l + (e - l) ≡ e
      go l h = omega arith

  -- size / 2 ^ 1074 is at most 1 + 2 ^ -53 times y * 2 ^ (e - 1085)
  pub packed_up : size y e * 2048 * 2 ^ 53 ≤ y * 2 ^ e * (2 ^ 53 + 1)
  packed_up = go (kept y) (y * 2 ^ count_leading_zeros 64 y) (2 ^ (e - count_leading_zeros 64 y)) (y * 2 ^ e) moved (near_up (y * 2 ^ count_leading_zeros 64 y)) (top_lo y positive fits)
    where
      one : (m Y : ℕ) → m * 2048 ≤ Y + 1024 → 2 ^ 63 ≤ Y → m * 2048 * 2 ^ 53 ≤ Y * (2 ^ 53 + 1)
      one m Y h k = omega arith

      a : (m F c d : ℕ) → m * F * c * d ≡ m * c * d * F
      a m F c d = simp ac

      b : (Y F c : ℕ) → Y * c * F ≡ Y * F * c
      b Y F c = simp ac

      go : (m Y F y : ℕ) → Y * F ≡ y → m * 2048 ≤ Y + 1024 → 2 ^ 63 ≤ Y → m * F * 2048 * 2 ^ 53 ≤ y * (2 ^ 53 + 1)
      go m Y F y e h k = le_trans (le_of_eq (a m F 2048 (2 ^ 53))) (le_trans (mul-le-mul_right F (one m Y h k)) (le_of_eq (b Y F (2 ^ 53 + 1) ∙ ap (λ (x : ℕ). x * (2 ^ 53 + 1)) e)))

  -- and at least 1 - 2 ^ -53 times it
  pub packed_down : y * 2 ^ e * (2 ^ 53 - 1) ≤ size y e * 2048 * 2 ^ 53
  packed_down = go (kept y) (y * 2 ^ count_leading_zeros 64 y) (2 ^ (e - count_leading_zeros 64 y)) (y * 2 ^ e) moved (near_down (y * 2 ^ count_leading_zeros 64 y)) (top_lo y positive fits)
    where
      one : (m Y : ℕ) → Y ≤ m * 2048 + 1023 → 2 ^ 63 ≤ Y → Y * (2 ^ 53 - 1) ≤ m * 2048 * 2 ^ 53
      one m Y h k = omega arith

      a : (m F c d : ℕ) → m * c * d * F ≡ m * F * c * d
      a m F c d = simp ac

      b : (Y F c : ℕ) → Y * F * c ≡ Y * c * F
      b Y F c = simp ac

      go : (m Y F y : ℕ) → Y * F ≡ y → Y ≤ m * 2048 + 1023 → 2 ^ 63 ≤ Y → y * (2 ^ 53 - 1) ≤ m * F * 2048 * 2 ^ 53
      go m Y F y e h k = le_trans (le_of_eq (ap (λ (x : ℕ). x * (2 ^ 53 - 1)) (sym e) ∙ b Y F (2 ^ 53 - 1))) (le_trans (mul-le-mul_right F (one m Y h k)) (le_of_eq (a m F 2048 (2 ^ 53))))
