-- tanh of an argument of 20 or more in size: one of the quotient's numbers is 0, so that it is 1 or -1. Assumes nothing.
use mathlib.Core.Path.{◌≡◌, refl, sym, ap, ◌∙◌, subst}
use mathlib.Core.Bool.{Bool, true, false}
use Prim.Native.Nat.{ℕ, ◌+◌, ◌-◌, ◌*◌, ◌/◌, ◌%◌, ◌^◌, ◌≤◌, ◌<◌}
use native.Mathlib.Nat.{le_trans, mul-one, one-mul, add-zero, zero-add, mul-le-mul_left, mul-le-mul_right, lt_of_lt_of_le, le-div_iff_mul-le, div-lt_iff_lt-mul}
use native.Mathlib.Decide.{dec_le}
use native.Mathlib.Omega.{arith}
use lib.Dec.{lit<, lit≤}
use lib.Pow.{pow_mono, pow_pos}
use lib.Ieee.{binary64, of_bits, of_fields, odd, round, units, size, span, climb, neg}
use lib.Ieee.Exact.{HasValue}
use lib.Ieee.Scale.{round_same}
use Rattle.exponential.specs.Raise.{significand_of}
use Rattle.exponential.specs.Exp.{argument_size, binary_of, exponent_at}
use Rattle.fixed_point.specs.Fields.{exponent_field}
use Rattle.exponential.specs.Tanh.{exp_part, one_part, tanh_ratio_of}
use Rattle.exponential.proofs.Digits.{significand_lo, significand_hi}
use Rattle.exponential.proofs.Argument.{negative_at, positive_at}
use Rattle.exponential.proofs.TanhPart.{small_part}
use Rattle.exponential.proofs.Rounded.{whole, whole_is}
use Rattle.exponential.proofs.TanhNear.{plus_is, minus_is, ratio_of, ratio_signed}

-- ---- the quotient of a number and 0, and of 0 and a number
one_is : round binary64 false 1 1 ≡ of_bits binary64 0x3ff0_0000_0000_0000
unfolding of_bits of_fields odd round units size span climb
one_is = refl

minus_one_is : round binary64 true 1 1 ≡ neg (of_bits binary64 0x3ff0_0000_0000_0000)
unfolding of_bits of_fields odd round units size span climb neg
minus_one_is = refl

module _ (n : ℕ) (some : 0 < n) (h : n ≤ 2 ^ 52) where
  wide : n ≤ 2 ^ 53
  wide = le_trans h (lit≤ tt)

  itself : HasValue (whole n) false (0 + n) 1
  itself = subst (λ (m : ℕ). HasValue (whole n) false m 1) (sym (zero-add n)) (whole_is n wide)

  zero_is : HasValue (whole 0) false 0 1
  zero_is = whole_is 0 (lit≤ tt)

  over : (s : Bool) (m : ℕ) → n ≡ m → round binary64 s n m ≡ round binary64 s 1 1
  over s m e = round_same binary64 s n m 1 1 (subst (λ (m : ℕ). 0 < m) e some) (lit< tt) (mul-one n ∙ e ∙ sym (one-mul m))

  plus_one : ratio_of n 0 ≡ of_bits binary64 0x3ff0_0000_0000_0000
  plus_one = ratio_signed false n 0 n h (lit≤ tt) wide (subst (λ (m : ℕ). 0 < m) (sym (add-zero n)) some) (plus_is (whole n) (whole 0) n 0 itself zero_is) ∙ over false (n + 0) (sym (add-zero n)) ∙ one_is

  minus_one : ratio_of 0 n ≡ neg (of_bits binary64 0x3ff0_0000_0000_0000)
  minus_one = ratio_signed true 0 n n (lit≤ tt) h wide (subst (λ (m : ℕ). 0 < m) (sym (zero-add n)) some) (minus_is (whole 0) (whole n) n 0 some zero_is itself) ∙ over true (0 + n) (sym (zero-add n)) ∙ minus_one_is

-- ---- a number moved by 52 places or more has no digit left
none : (y n : ℕ) → y < 2 ^ 64 → 52 ≤ n → y / 2 ^ n / 4096 ≡ 0
none y n h k = zero_of (y / 2 ^ n) ((div-lt_iff_lt-mul (pow_pos n)).1 (lt_of_lt_of_le h (le_trans (lit≤ tt) (mul-le-mul_left 4096 (pow_mono k)))))
  where
    zero_of : (x : ℕ) → x < 4096 → x / 4096 ≡ 0
    zero_of x h = omega arith

-- one that is not moved keeps its own
kept : (y n : ℕ) → 2 ^ 63 ≤ y → n ≡ 0 → 0 < y / 2 ^ n / 4096
kept y n h e = subst (λ (n : ℕ). 0 < y / 2 ^ n / 4096) (sym e) (go y h)
  where
    go : (y : ℕ) → 2 ^ 63 ≤ y → 0 < y / 1 / 4096
    go y h = omega arith

module _ (w : ℕ) where
  far_above : 52 ≤ w / 2 ^ 53 - 1023 → tanh_ratio_of w ≡ of_bits binary64 0x3ff0_0000_0000_0000
  unfolding tanh_ratio_of
  far_above h = ap (λ (o : ℕ). ratio_of (exp_part w) o) (none (2 ^ 63) (w / 2 ^ 53 - 1023) (lit< tt) h) ∙ plus_one (exp_part w) (kept (significand_of w) (1023 - w / 2 ^ 53) (significand_lo w) (unmoved (w / 2 ^ 53) h)) (small_part (significand_of w) (1023 - w / 2 ^ 53) (significand_hi w))
    where
      unmoved : (q : ℕ) → 52 ≤ q - 1023 → 1023 - q ≡ 0
      unmoved q h = omega arith

  far_below : 52 ≤ 1023 - w / 2 ^ 53 → tanh_ratio_of w ≡ neg (of_bits binary64 0x3ff0_0000_0000_0000)
  unfolding tanh_ratio_of
  far_below h = ap (λ (e : ℕ). ratio_of e (one_part w)) (none (significand_of w) (1023 - w / 2 ^ 53) (significand_hi w) h) ∙ minus_one (one_part w) (kept (2 ^ 63) (w / 2 ^ 53 - 1023) (lit≤ tt) (unmoved (w / 2 ^ 53) h)) (small_part (2 ^ 63) (w / 2 ^ 53 - 1023) (lit< tt))
    where
      unmoved : (q : ℕ) → 52 ≤ 1023 - q → q - 1023 ≡ 0
      unmoved q h = omega arith

-- ---- the exponent of 2x: 40 / ln 2 is above 57
module _ (b : ℕ) (large : 4109 ≤ b / 2 ^ 50 % 8192) (top : exponent_field b ≤ 1031) where
  twice_size : 40 * 2 ^ 54 ≤ argument_size (b + 2 ^ 52)
  twice_size = (le-div_iff_mul-le (pow_pos (1032 - exponent_field (b + 2 ^ 52)))).1 (go (dec_le (1032 - exponent_field (b + 2 ^ 52)) 3))
    where
      most : (b : ℕ) → 40 * 2 ^ 54 * 2 ^ 3 ≤ ((b + 2 ^ 52) % 2 ^ 52 + 2 ^ 52) * 2048
      most b = omega arith

      four : (b : ℕ) → 4109 ≤ b / 2 ^ 50 % 8192 → b / 2 ^ 52 % 2048 ≤ 1031 → 1032 - (b + 2 ^ 52) / 2 ^ 52 % 2048 ≤ 4
      four b h k = omega arith

      least : (b : ℕ) → 4109 ≤ b / 2 ^ 50 % 8192 → b / 2 ^ 52 % 2048 ≤ 1031 → (1032 - (b + 2 ^ 52) / 2 ^ 52 % 2048 ≤ 3 → ⊥) → 40 * 2 ^ 54 * 2 ^ 4 ≤ ((b + 2 ^ 52) % 2 ^ 52 + 2 ^ 52) * 2048
      least b h k l = omega arith

      go : Dec (1032 - exponent_field (b + 2 ^ 52) ≤ 3) → 40 * 2 ^ 54 * 2 ^ (1032 - exponent_field (b + 2 ^ 52)) ≤ ((b + 2 ^ 52) % 2 ^ 52 + 2 ^ 52) * 2048
      go (yes l) = le_trans (mul-le-mul_left (40 * 2 ^ 54) (pow_mono l)) (most b)
      go (no l) = le_trans (mul-le-mul_left (40 * 2 ^ 54) (pow_mono (four b large top))) (least b large top l)

  twice_binary : 57 * 2 ^ 53 ≤ binary_of (b + 2 ^ 52)
  twice_binary = (le-div_iff_mul-le (lit< {m = 0} {n = 2 ^ 64} tt)).1 (le_trans (lit≤ tt) (mul-le-mul_right 13306513097844322491 twice_size))

  pub large_positive : b < 2 ^ 63 → of_bits binary64 0x3ff0_0000_0000_0000 ≡ tanh_ratio_of (exponent_at (b + 2 ^ 52))
  large_positive h = sym (far_above (exponent_at (b + 2 ^ 52)) (subst (λ (w : ℕ). 52 ≤ w / 2 ^ 53 - 1023) (positive_at (b + 2 ^ 52) (binary_of (b + 2 ^ 52)) refl (under b h top)) (lin (binary_of (b + 2 ^ 52)) twice_binary)))
    where
      under : (b : ℕ) → b < 2 ^ 63 → b / 2 ^ 52 % 2048 ≤ 1031 → b + 2 ^ 52 < 2 ^ 63
      under b h k = omega arith

      lin : (v : ℕ) → 57 * 2 ^ 53 ≤ v → 52 ≤ (1023 * 2 ^ 53 + v) / 2 ^ 53 - 1023
      lin v h = omega arith

  pub large_negative : 2 ^ 63 ≤ b → neg (of_bits binary64 0x3ff0_0000_0000_0000) ≡ tanh_ratio_of (exponent_at (b + 2 ^ 52))
  large_negative h = sym (far_below (exponent_at (b + 2 ^ 52)) (subst (λ (w : ℕ). 52 ≤ 1023 - w / 2 ^ 53) (negative_at (b + 2 ^ 52) (binary_of (b + 2 ^ 52)) refl (over_half b h)) (lin (binary_of (b + 2 ^ 52)) twice_binary)))
    where
      over_half : (b : ℕ) → 2 ^ 63 ≤ b → 2 ^ 63 ≤ b + 2 ^ 52
      over_half b h = omega arith

      lin : (v : ℕ) → 57 * 2 ^ 53 ≤ v → 52 ≤ 1023 - (1023 * 2 ^ 53 - v) / 2 ^ 53
      lin v h = omega arith

-- ---- the code's tests: two more digits than the exponent's field
pub large_field : (b : ℕ) → 4109 ≤ b / 2 ^ 50 % 8192 → 1006 ≤ exponent_field b
large_field b h = omega arith

pub tiny_field : (b : ℕ) → b / 2 ^ 50 % 8192 < 4024 → exponent_field b < 1006
tiny_field b h = omega arith

pub away_field : (b : ℕ) → 4024 ≤ b / 2 ^ 50 % 8192 → 1006 ≤ exponent_field b
away_field b h = omega arith
