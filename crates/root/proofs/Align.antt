-- A float's significand m with its leading digit moved to the top, so that the exponent is even: what `positiveRoot` is for m 2 ^ e units. Assumes nothing.
use mathlib.Core.Path.{◌≡◌, sym, ap, ◌∙◌, subst}
use Prim.Native.Nat.{ℕ, suc, ◌+◌, ◌-◌, ◌*◌, ◌/◌, ◌%◌, ◌^◌, ◌≤◌, ◌<◌}
use native.Mathlib.Nat.{le_trans, le_antisymm, lt_of_le_of_lt, lt_of_lt_of_le, lt_of_not-le, lt_irrefl, mul_assoc, mul-le-mul_right}
use native.Mathlib.Omega.{arith}
use native.Mathlib.Decide.{dec_le}
use lib.Count.{count_leading_zeros, leading_top}
use lib.Pow.{pow_mono, pow-add, shl_lt, shl-shr}
use lib.Ieee.{binary64, of_bits, size}
use lib.Ieee.Digits.{size-lt, size-le}
use Rattle.root.specs.Root.{whole_root, positive_root}

-- powers of two are ordered as their exponents
power_lt : (i j : ℕ) → 2 ^ i < 2 ^ j → i < j
power_lt i j h = go (dec_le j i)
  where
    go : Dec (j ≤ i) → i < j
    go (yes p) = absurd (lt_irrefl (2 ^ i) (lt_of_lt_of_le h (pow_mono p)))
    go (no n) = lt_of_not-le n

pub size_is : (n j : ℕ) → 2 ^ j ≤ n → n < 2 ^ (j + 1) → size n ≡ j + 1
size_is n j h k = le_antisymm (size-le n (j + 1) k) (lin j (size n) (power_lt j (size n) (lt_of_le_of_lt h (size-lt n))))
  where
    lin : (j s : ℕ) → j < s → j + 1 ≤ s
    lin j s h = omega arith

-- the leading zeros, the exponent with them taken off, and the significand moved
abbrev pub zeros : ℕ → ℕ
zeros m = count_leading_zeros 64 m

abbrev pub double : ℕ → ℕ → ℕ
double m e = 1033 + e - zeros m

abbrev pub moved : ℕ → ℕ → ℕ
moved m e = m * 2 ^ (zeros m - 1 + double m e % 2)

module _ (m e : ℕ) (some : 0 < m) (short : m < 2 ^ 53) where
  -- j + 1 digits
  top : (j : ℕ) × (zeros m + suc j ≡ 64) × (2 ^ j ≤ m) × (m < 2 ^ suc j)
  top = leading_top 64 m some (lt_of_lt_of_le short (pow_mono {i = 53} {j = 64} (omega arith)))

  pub zeros_few : (11 ≤ zeros m) × (zeros m ≤ 63)
  zeros_few = lin (zeros m) top.0 top.1 (power_lt top.0 53 (lt_of_le_of_lt top.2 short))
    where
      lin : (l j : ℕ) → l + suc j ≡ 64 → j < 53 → (11 ≤ l) × (l ≤ 63)
      lin l j h k = (omega arith, omega arith)

  pub field : (size (m * 2 ^ e) + 969) / 2 ≡ double m e / 2
  field = ap (λ (z : ℕ). (z + 969) / 2) (size_is (m * 2 ^ e) (top.0 + e) low high) ∙ ap (λ (z : ℕ). z / 2) (lin (zeros m) top.0 e top.1)
    where
      low : 2 ^ (top.0 + e) ≤ m * 2 ^ e
      low = subst (λ (z : ℕ). z ≤ m * 2 ^ e) (sym (pow-add 2 top.0 e)) (mul-le-mul_right (2 ^ e) top.2)

      high : m * 2 ^ e < 2 ^ (top.0 + e + 1)
      high = subst (λ (z : ℕ). m * 2 ^ e < 2 ^ z) (order top.0 e) (shl_lt (suc top.0) e top.3)
        where
          order : (j e : ℕ) → suc j + e ≡ j + e + 1
          order j e = omega arith

      lin : (l j e : ℕ) → l + suc j ≡ 64 → j + e + 1 + 969 ≡ 1033 + e - l
      lin l j e h = omega arith

  pub moved_fits : moved m e < 2 ^ 64
  moved_fits = lt_of_lt_of_le (shl_lt (suc top.0) (zeros m - 1 + double m e % 2) top.3) (pow_mono {j = 64} (lin (zeros m) top.0 (double m e) top.1 zeros_few.0))
    where
      lin : (l j d : ℕ) → l + suc j ≡ 64 → 11 ≤ l → suc j + (l - 1 + d % 2) ≤ 64
      lin l j d h k = omega arith

  pub moved_long : 2 ^ 62 ≤ moved m e
  moved_long =
      le_trans (pow_mono {i = 62} (lin (zeros m) top.0 (double m e) top.1 zeros_few.0))
      (subst (λ (z : ℕ). z ≤ moved m e) (sym (pow-add 2 top.0 (zeros m - 1 + double m e % 2))) (mul-le-mul_right (2 ^ (zeros m - 1 + double m e % 2)) top.2))
    where
      lin : (l j d : ℕ) → l + suc j ≡ 64 → 11 ≤ l → 62 ≤ j + (l - 1 + d % 2)
      lin l j d h k = omega arith

  -- the move loses nothing
  pub exact : m * 2 ^ e * 2 ^ 1076 ≡ moved m e * 2 ^ 44 * 2 ^ (2 * (double m e / 2))
  exact = go (2 ^ 1076) (2 ^ 44) (pow-add 2 e 1076) (pow-add 2 (zeros m - 1 + double m e % 2 + 44) (2 * (double m e / 2))) (pow-add 2 (zeros m - 1 + double m e % 2) 44)
    where
      lin : (l e : ℕ) → 11 ≤ l → l ≤ 63 → e + 1076 ≡ l - 1 + (1033 + e - l) % 2 + 44 + 2 * ((1033 + e - l) / 2)
      lin l e h k = omega arith

      go : (u v : ℕ) → 2 ^ (e + 1076) ≡ 2 ^ e * u → 2 ^ (zeros m - 1 + double m e % 2 + 44 + 2 * (double m e / 2)) ≡ 2 ^ (zeros m - 1 + double m e % 2 + 44) * 2 ^ (2 * (double m e / 2))
          → 2 ^ (zeros m - 1 + double m e % 2 + 44) ≡ 2 ^ (zeros m - 1 + double m e % 2) * v → m * 2 ^ e * u ≡ moved m e * v * 2 ^ (2 * (double m e / 2))
      go u v p q r =
          mul_assoc m (2 ^ e) u
          ∙ ap (λ (z : ℕ). m * z) (sym p ∙ ap (λ (z : ℕ). 2 ^ z) (lin (zeros m) e zeros_few.0 zeros_few.1) ∙ q ∙ ap (λ (z : ℕ). z * 2 ^ (2 * (double m e / 2))) r)
          ∙ sym (mul_assoc m (2 ^ (zeros m - 1 + double m e % 2) * v) (2 ^ (2 * (double m e / 2))))
          ∙ ap (λ (z : ℕ). z * 2 ^ (2 * (double m e / 2))) (sym (mul_assoc m (2 ^ (zeros m - 1 + double m e % 2)) v))

  pub positive_is : positive_root (m * 2 ^ e) ≡ of_bits binary64 (double m e / 2 * 4503599627370496 + (whole_root 54 (moved m e * 2 ^ 44) + 1) / 2)
  unfolding positive_root
  positive_is =
      ap (λ (f : ℕ). of_bits binary64 (f * 4503599627370496 + (whole_root 54 (m * 2 ^ e * 2 ^ 1076 / 2 ^ (2 * f)) + 1) / 2)) field
      ∙ ap (λ (a : ℕ). of_bits binary64 (double m e / 2 * 4503599627370496 + (whole_root 54 a + 1) / 2))
      (ap (λ (z : ℕ). z / 2 ^ (2 * (double m e / 2))) exact ∙ shl-shr (moved m e * 2 ^ 44) (2 * (double m e / 2)))
