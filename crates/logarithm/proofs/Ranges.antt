-- The sizes that keep the logarithm's numbers in 64 bits. Assumes nothing.
use mathlib.Core.Path.{◌≡◌, sym, ap, ◌∙◌}
use Prim.Native.Nat.{ℕ, suc, ◌+◌, ◌-◌, ◌*◌, ◌/◌, ◌%◌, ◌^◌, ◌≤◌, ◌<◌}
use native.Mathlib.Nat.{le_trans, le_of_eq, lt_of_lt_of_le, lt_of_le_of_lt, le_of_lt, mul_assoc, mul-le-mul, mul-le-mul_left, mul-le-mul_right, le_of_mul-le-mul_right, div-mul-le_self, div-le_of_le-mul, mod-eq_of_lt, one-mul, mul-mod_left, pow-suc, lt_of_not-le, not-le_of_lt}
use native.Mathlib.Omega.{arith}
use lib.Dec.{lit<, lit≤}
use lib.Pow.{pow_pos, pow-add, pow_mono, shl_lt}
use lib.Count.{count_leading_zeros, leading_length, leading_top}
use Rattle.fixed_point.specs.Horner.{horner}
use Rattle.fixed_point.specs.Quotient.{quotient}
use Rattle.fixed_point.proofs.Horner.{ac}
use Rattle.fixed_point.proofs.TwoDigits.{quotient_lo}
use Rattle.logarithm.specs.Logarithm.{coefficients, core, multiple}
use Rattle.logarithm.proofs.CoreBounds.{q_small, series_small}

pub multiple_hi : (k : ℕ) → k ≤ 1025 → multiple k ≤ 13000000000000000000
unfolding multiple
multiple_hi k h = omega arith

-- more than the part of w, by 2 ^ 51 at least
pub multiple_lo : (k : ℕ) → 0 < k → 2 ^ 53 + 2 ^ 51 ≤ multiple k
unfolding multiple
multiple_lo k h = go k (k * 7525737178955839 / 2 ^ 54) h
  where
    go : (k x : ℕ) → 0 < k → 2 ^ 53 + 2 ^ 51 ≤ k * 12486629536330718 + x
    go k x h = omega arith

module _ (n d sh : ℕ) (lo : 5 * 2 ^ 62 ≤ 3 * d) (hi : 5 * d ≤ 14 * 2 ^ 62) (few : 10 * n ≤ 3 * d) (five : 5 * n ≤ d * 2 ^ sh) where
  d_lo : 2 ^ 62 ≤ d
  d_lo = omega arith

  pub fifth : 5 * quotient n d ≤ 2 ^ 64 * 2 ^ sh
  fifth =
      le_of_mul-le-mul_right {k = d}
      (le_trans (le_of_eq (mul_assoc 5 (quotient n d) d)) (le_trans (mul-le-mul_left 5 (quotient_lo n d d_lo hi few))
      (le_trans (le_of_eq (sym (mul_assoc 5 n (2 ^ 64)))) (le_trans (mul-le-mul_right (2 ^ 64) five) (le_of_eq (go d (2 ^ sh) (2 ^ 64)))))))
      (lt_of_lt_of_le (lit< tt) d_lo)
    where
      go : (d s w : ℕ) → d * s * w ≡ w * s * d
      go d s w = simp ac

  pub z_small : quotient n d / 2 ^ sh ≤ 2 ^ 62
  z_small = fifth_of (quotient n d / 2 ^ sh) (le_of_mul-le-mul_right {k = 2 ^ sh} (le_trans (le_of_eq (mul_assoc 5 (quotient n d / 2 ^ sh) (2 ^ sh))) (le_trans (mul-le-mul_left 5 (div-mul-le_self (quotient n d) (2 ^ sh))) fifth)) (pow_pos sh))
    where
      fifth_of : (z : ℕ) → 5 * z ≤ 2 ^ 64 → z ≤ 2 ^ 62
      fifth_of z h = omega arith

  -- the part of w in units of 2 ^ -54
  abbrev q : ℕ
  q = quotient n d / 2 ^ sh * (quotient n d / 2 ^ sh) / 2 ^ 64

  abbrev b : ℕ
  b = horner coefficients q

  pub part_small : core n d sh / 2 ^ (sh + 8) ≤ 2 ^ 53
  unfolding core
  part_small =
      div-le_of_le-mul (2 ^ (sh + 8))
      (last (quotient n d * b / 2 ^ 64) (2 ^ sh) (2 ^ (sh + 8)) (pow-add 2 sh 8)
      (le_of_mul-le-mul_right {k = 2 ^ 64}
      (le_trans (le_of_eq (mul_assoc 5 (quotient n d * b / 2 ^ 64) (2 ^ 64))) (le_trans (mul-le-mul_left 5 (div-mul-le_self (quotient n d * b) (2 ^ 64)))
      (le_trans (le_of_eq (sym (mul_assoc 5 (quotient n d) b))) (le_trans (mul-le-mul fifth (series_small q (q_small (quotient n d / 2 ^ sh) z_small))) (le_of_eq (go (2 ^ 64) (2 ^ sh) (2 ^ 63 + 2 ^ 60)))))))
      (lit< tt)))
    where
      go : (w s c : ℕ) → w * s * c ≡ c * s * w
      go w s c = simp ac

      last : (r s t : ℕ) → t ≡ s * 2 ^ 8 → 5 * r ≤ (2 ^ 63 + 2 ^ 60) * s → r ≤ t * 2 ^ 53
      last r s t e h = omega arith

-- ---- n moved up by sh = leading zeros - 3
pow_lt_cancel : {a b : ℕ} → 2 ^ a < 2 ^ b → a < b
pow_lt_cancel h = lt_of_not-le (λ g. not-le_of_lt h (pow_mono g))

-- a number below 2 ^ j has 64 - j zeros or more above it
pub zeros_from : (n j : ℕ) → j < 64 → n < 2 ^ j → 64 ≤ count_leading_zeros 64 n + j
zeros_from n j k h = go (count_leading_zeros 64 n) (leading_length 64 n (lt_of_lt_of_le h (pow_mono (le_of_lt k))))
  where
    less : (n x : ℕ) → n < x → 2 * n + 1 < x * 2
    less n x h = omega arith

    lin : (l m j : ℕ) → l + m ≡ 64 → m < suc j → 64 ≤ l + j
    lin l m j e h = omega arith

    go : (l : ℕ) → (m : ℕ) × (l + m ≡ 64) × (n < 2 ^ m) × (2 ^ m ≤ 2 * n + 1) → 64 ≤ l + j
    go l (m, e, a, b) = lin l m j e (pow_lt_cancel (lt_of_le_of_lt b (lt_of_lt_of_le (less n (2 ^ j) h) (le_of_eq (sym (pow-suc 2 j))))))

module _ (n : ℕ) (small : n < 2 ^ 61) where
  length : (m : ℕ) × (count_leading_zeros 64 n + m ≡ 64) × (n < 2 ^ m) × (2 ^ m ≤ 2 * n + 1)
  length = leading_length 64 n (lt_of_lt_of_le small (lit≤ tt))

  pub three : 3 ≤ count_leading_zeros 64 n
  three = lin (count_leading_zeros 64 n) (zeros_from n 61 (lit< tt) small)
    where
      lin : (l : ℕ) → 64 ≤ l + 61 → 3 ≤ l
      lin l h = omega arith

  pub moved_lt : n * 2 ^ (count_leading_zeros 64 n - 3) < 2 ^ 61
  moved_lt = go (count_leading_zeros 64 n) three length
    where
      lin : (l m : ℕ) → 3 ≤ l → l + m ≡ 64 → m + (l - 3) ≡ 61
      lin l m h e = omega arith

      go : (l : ℕ) → 3 ≤ l → (m : ℕ) × (l + m ≡ 64) × (n < 2 ^ m) × (2 ^ m ≤ 2 * n + 1) → n * 2 ^ (l - 3) < 2 ^ 61
      go l h (m, e, a, b) = lt_of_lt_of_le (shl_lt m (l - 3) a) (le_of_eq (ap (λ (x : ℕ). 2 ^ x) (lin l m h e)))

  pub shifted : (n * 2 ^ (count_leading_zeros 64 n - 3)) % 2 ^ 64 ≡ n * 2 ^ (count_leading_zeros 64 n - 3)
  shifted = mod-eq_of_lt (lt_of_lt_of_le moved_lt (lit≤ tt))

  pub moved_ge : 0 < n → 2 ^ 60 ≤ n * 2 ^ (count_leading_zeros 64 n - 3)
  moved_ge p = go (count_leading_zeros 64 n) three (leading_top 64 n p (lt_of_lt_of_le small (lit≤ tt)))
    where
      lin : (l j : ℕ) → 3 ≤ l → l + suc j ≡ 64 → j + (l - 3) ≡ 60
      lin l j h e = omega arith

      go : (l : ℕ) → 3 ≤ l → (j : ℕ) × (l + suc j ≡ 64) × (2 ^ j ≤ n) × (n < 2 ^ suc j) → 2 ^ 60 ≤ n * 2 ^ (l - 3)
      go l h (j, e, a, b) = le_trans (le_of_eq (ap (λ (x : ℕ). 2 ^ x) (sym (lin l j h e)) ∙ pow-add 2 j (l - 3))) (mul-le-mul_right (2 ^ (l - 3)) a)

-- what the core asks, at the number moved up
pub moved_few : (n d : ℕ) → n < 2 ^ 61 → 5 * 2 ^ 62 ≤ 3 * d → 10 * n ≤ 3 * d
moved_few n d h k = omega arith

pub moved_five : (n d s : ℕ) → 5 * n ≤ d → 5 * (n * s) ≤ d * s
moved_five n d s h = le_trans (le_of_eq (sym (mul_assoc 5 n s))) (mul-le-mul_right s h)

-- ---- `ln_1p`
-- v in units of 2 ^ -62, from n in units of 2 ^ -62 / S
pub part_of_two : (n S : ℕ) → 2 ≤ S → n < 2 ^ 61 → n / S < 2 ^ 60
part_of_two n S h k = half (n / S) (lt_of_le_of_lt (le_trans (mul-le-mul_left (n / S) h) (div-mul-le_self n S)) k)
  where
    half : (x : ℕ) → x * 2 < 2 ^ 61 → x < 2 ^ 60
    half x h = omega arith

pub two_le : (sh : ℕ) → 1 ≤ sh → 2 ≤ 2 ^ sh
two_le sh h = pow_mono {i = 1} {j = sh} h

-- what the core asks, 2 + v being from 7/4 up to 9/4
pub asked_1p : (n d sh : ℕ) → 1 ≤ sh → sh < 64 → n < 2 ^ 61 → 7 * 2 ^ 60 ≤ d → d ≤ 9 * 2 ^ 60 → (5 * 2 ^ 62 ≤ 3 * d) × (5 * d ≤ 14 * 2 ^ 62) × (10 * n ≤ 3 * d) × (5 * n ≤ d * 2 ^ sh) × (sh < 64)
asked_1p n d sh p q h lo hi = (low d lo, high d hi, few n d h lo, le_trans (two n d h lo) (mul-le-mul_left d (two_le sh p)), q)
  where
    low : (d : ℕ) → 7 * 2 ^ 60 ≤ d → 5 * 2 ^ 62 ≤ 3 * d
    low d h = omega arith

    high : (d : ℕ) → d ≤ 9 * 2 ^ 60 → 5 * d ≤ 14 * 2 ^ 62
    high d h = omega arith

    few : (n d : ℕ) → n < 2 ^ 61 → 7 * 2 ^ 60 ≤ d → 10 * n ≤ 3 * d
    few n d h k = omega arith

    two : (n d : ℕ) → n < 2 ^ 61 → 7 * 2 ^ 60 ≤ d → 5 * n ≤ d * 2
    two n d h k = omega arith

-- one in units of v's last place
pub one_shl : (n : ℕ) → n ≤ 54 → (1 * 2 ^ n) % 2 ^ 64 ≡ 2 ^ n
one_shl n h = ap (λ (x : ℕ). x % 2 ^ 64) (one-mul (2 ^ n)) ∙ mod-eq_of_lt (lt_of_le_of_lt (pow_mono h) (lit< {m = 2 ^ 54} {n = 2 ^ 64} tt))

-- 1 + v, and 1 - v
pub plus_lt : (one m : ℕ) → one ≤ 2 ^ 54 → m < 2 ^ 53 → one + m < 2 ^ 55
plus_lt one m h k = omega arith

pub minus_lt : (one m : ℕ) → one ≤ 2 ^ 54 → one - m < 2 ^ 55
minus_lt one m h = omega arith

pub minus_pos : (one m : ℕ) → 2 ^ 53 ≤ one → m < 2 ^ 53 → m < one
minus_pos one m h k = omega arith

-- the last two bits of a number moved up by two or more
pub fours : (y l : ℕ) → 2 ≤ l → (y * 2 ^ l) % 4 ≡ 0
fours y l h = ap (λ (x : ℕ). y * 2 ^ x % 4) (lin l h) ∙ ap (λ (x : ℕ). y * x % 4) (pow-add 2 (l - 2) 2) ∙ go y (2 ^ (l - 2))
  where
    lin : (l : ℕ) → 2 ≤ l → l ≡ l - 2 + 2
    lin l h = omega arith

    go : (y x : ℕ) → y * (x * 4) % 4 ≡ 0
    go y x = ap (λ (z : ℕ). z % 4) (sym (mul_assoc y x 4)) ∙ mul-mod_left (y * x) 4
