-- exp x - 1 away from 0: the differences do not wrap, and what the code's branches know. Assumes nothing.
use mathlib.Core.Path.{◌≡◌, refl, sym, ◌∙◌, subst}
use mathlib.Core.Bool.{Bool, true, false}
use Prim.Native.Nat.{ℕ, zero, suc, ◌+◌, ◌-◌, ◌*◌, ◌/◌, ◌%◌, ◌^◌, ◌≤◌, ◌<◌}
use native.Mathlib.Nat.{le_trans, lt_of_lt_of_le, not-le_of_lt, mul-le-mul_left, mul-le-mul_right, div-le_of_le-mul, div-lt_iff_lt-mul, le-div_iff_mul-le}
use native.Mathlib.Decide.{dec_le}
use native.Mathlib.Omega.{arith}
use lib.Dec.{T, leb, ltb, leb→le, le→leb, ltb→lt, not_T, lit≤, lit<}
use borrow.Author.Tests.{lt-ltb, le-ltb}
use lib.Pow.{pow_mono, pow_pos}
use lib.ListN.{get_or}
use lib.Ieee.{Float, binary64, to_bits, fits}
use lib.Ieee.Bits.{is_true, is_false}
use Rattle.number.specs.Ans.{held, refused}
use Rattle.number.specs.Domain.{exp_inside}
use Rattle.fixed_point.specs.Pack.{packed}
use Rattle.number.proofs.Table.{every, at}
use Rattle.exponential.specs.Powers.{powers}
use Rattle.exponential.specs.Raise.{significand_of}
use Rattle.exponential.specs.Exp.{binary_of, binary_exponent_of}
use Rattle.fixed_point.specs.Fields.{exponent_field}
use Rattle.exponential.specs.ExpM1.{small_of, below_of, above_of, away_of, exp_m1_of}
use Rattle.exponential.proofs.Digits.{place, significand_lo, significand_hi}
use Rattle.exponential.proofs.Argument.{negative_at, positive_at}

-- ---- below 1
pub part_lt : (y n : ℕ) → y < 2 ^ 64 → 1 ≤ n → y / 2 ^ n < 2 ^ 63
part_lt y n h k = (div-lt_iff_lt-mul (pow_pos n)).1 (lt_of_lt_of_le h (le_trans (lit≤ tt) (mul-le-mul_left (2 ^ 63) (pow_mono k))))

pub below_part : (w y p : ℕ) → w < 1023 * 2 ^ 53 → y ≡ significand_of w → p ≡ y / 2 ^ (1023 - w / 2 ^ 53) → p < 2 ^ 63
below_part w y p h e f = subst (λ (x : ℕ). x < 2 ^ 63) (sym f) (part_lt y (1023 - w / 2 ^ 53) (subst (λ (x : ℕ). x < 2 ^ 64) (sym e) (significand_hi w)) (one w h))
  where
    one : (w : ℕ) → w < 1023 * 2 ^ 53 → 1 ≤ 1023 - w / 2 ^ 53
    one w h = omega arith

pub below_is : (w y p : ℕ) (x : Float) → y ≡ significand_of w → p ≡ y / 2 ^ (1023 - w / 2 ^ 53) → x ≡ packed 1 (2 ^ 63 - p) 1022 → x ≡ below_of w
unfolding below_of
below_is w y p x e f g = rw (g, f, e)

-- ---- above 1
-- the powers but the first are above 1
abbrev above_one : ℕ → ℕ → Bool
above_one zero e = true
above_one (suc j) e = ltb (2 ^ 63) e

all_above : T (every above_one 0 powers)
all_above = tt

power_gt : (j : ℕ) → j < 128 → 1 ≤ j → 2 ^ 63 < get_or powers j 0
power_gt zero h k = absurd (none k)
  where
    none : 1 ≤ 0 → ⊥
    none k = omega arith
power_gt (suc j) h k = ltb→lt (2 ^ 63) (get_or powers (suc j) 0) (at above_one powers all_above (suc j) h)

significand_gt : (w : ℕ) → 2 ^ 46 ≤ w % 2 ^ 53 → 2 ^ 63 < significand_of w
unfolding significand_of
significand_gt w h = more (get_or powers (w / 2 ^ 46 % 128) 0) _ (power_gt (w / 2 ^ 46 % 128) (place w) (first w h))
  where
    first : (w : ℕ) → 2 ^ 46 ≤ w % 2 ^ 53 → 1 ≤ w / 2 ^ 46 % 128
    first w h = omega arith

    more : (e x : ℕ) → 2 ^ 63 < e → 2 ^ 63 < e + x
    more e x h = omega arith

one_lt : (w : ℕ) → 1023 * 2 ^ 53 + 2 ^ 46 ≤ w → 2 ^ 63 / 2 ^ (w / 2 ^ 53 - 1023) < significand_of w
one_lt w h = go (dec_le 1 (w / 2 ^ 53 - 1023))
  where
    none : (k : ℕ) → (1 ≤ k → ⊥) → k ≡ 0
    none k h = omega arith

    fraction : (w : ℕ) → 1023 * 2 ^ 53 + 2 ^ 46 ≤ w → w / 2 ^ 53 - 1023 ≡ 0 → 2 ^ 46 ≤ w % 2 ^ 53
    fraction w h e = omega arith

    less : {x y : ℕ} → x ≤ 2 ^ 62 → 2 ^ 63 ≤ y → x < y
    less h k = omega arith

    go : Dec (1 ≤ w / 2 ^ 53 - 1023) → 2 ^ 63 / 2 ^ (w / 2 ^ 53 - 1023) < significand_of w
    go (yes k) = less (div-le_of_le-mul (2 ^ (w / 2 ^ 53 - 1023)) (le_trans (lit≤ tt) (mul-le-mul_right (2 ^ 62) (pow_mono k)))) (significand_lo w)
    go (no k) = let e = none (w / 2 ^ 53 - 1023) k in subst (λ (n : ℕ). 2 ^ 63 / 2 ^ n < significand_of w) (sym e) (significand_gt w (fraction w h e))

pub above_part : (w y o : ℕ) → 1023 * 2 ^ 53 + 2 ^ 46 ≤ w → y ≡ significand_of w → o ≡ 2 ^ 63 / 2 ^ (w / 2 ^ 53 - 1023) → o < y
above_part w y o h e f = subst (λ (x : ℕ). o < x) (sym e) (subst (λ (x : ℕ). x < significand_of w) (sym f) (one_lt w h))

pub above_is : (w y o : ℕ) (x : Float) → y ≡ significand_of w → o ≡ 2 ^ 63 / 2 ^ (w / 2 ^ 53 - 1023) → x ≡ packed 0 (y - o) (w / 2 ^ 53 - 1) → x ≡ above_of w
unfolding above_of
above_is w y o x e f g = rw (g, f, e)

-- ---- the branches: the exponent of an x from 1/4 on
binary_ge : (b : ℕ) → 1021 ≤ exponent_field b → 2 ^ 51 ≤ binary_of b
binary_ge b h = (le-div_iff_mul-le (lit< {m = 0} {n = 2 ^ 64} tt)).1 (le_trans (lit≤ tt) (mul-le-mul_right 13306513097844322491 size))
  where
    size : 2 ^ 52 ≤ (b % 2 ^ 52 + 2 ^ 52) * 2048 / 2 ^ (1032 - exponent_field b)
    size = (le-div_iff_mul-le (pow_pos (1032 - exponent_field b))).1 (le_trans (mul-le-mul_left (2 ^ 52) (pow_mono (eleven (exponent_field b) h))) (most b))
      where
        eleven : (f : ℕ) → 1021 ≤ f → 1032 - f ≤ 11
        eleven f h = omega arith

        most : (b : ℕ) → 2 ^ 52 * 2 ^ 11 ≤ (b % 2 ^ 52 + 2 ^ 52) * 2048
        most b = omega arith

module _ (x : Float) (fit : T (fits binary64 x)) (inside : T (exp_inside x)) (far : 1021 ≤ exponent_field (to_bits binary64 x)) where
  pub far_below : 2 ^ 63 ≤ to_bits binary64 x → (w : ℕ) → w ≡ binary_exponent_of x → 2 ^ 53 ≤ w → (2 ^ 53 ≤ w) × (w < 1023 * 2 ^ 53)
  unfolding binary_exponent_of
  far_below h w e k = (k, subst (λ (y : ℕ). y < 1023 * 2 ^ 53) (negative_at (to_bits binary64 x) (binary_of (to_bits binary64 x)) refl h ∙ sym e) (less (binary_of (to_bits binary64 x)) (binary_ge (to_bits binary64 x) far)))
    where
      less : (v : ℕ) → 2 ^ 51 ≤ v → 1023 * 2 ^ 53 - v < 1023 * 2 ^ 53
      less v h = omega arith

  pub far_above : to_bits binary64 x < 2 ^ 63 → (w : ℕ) → w ≡ binary_exponent_of x → w < 2046 * 2 ^ 53 → (1023 * 2 ^ 53 + 2 ^ 46 ≤ w) × (w < 2046 * 2 ^ 53)
  unfolding binary_exponent_of
  far_above h w e k = (subst (λ (y : ℕ). 1023 * 2 ^ 53 + 2 ^ 46 ≤ y) (positive_at (to_bits binary64 x) (binary_of (to_bits binary64 x)) refl h ∙ sym e) (more (binary_of (to_bits binary64 x)) (binary_ge (to_bits binary64 x) far)), k)
    where
      more : (v : ℕ) → 2 ^ 51 ≤ v → 1023 * 2 ^ 53 + 2 ^ 46 ≤ 1023 * 2 ^ 53 + v
      more v h = omega arith

module _ (x : Float) where
  abbrev b : ℕ
  b = to_bits binary64 x

  pub away_small : (v : Float) → exponent_field b < 1021 → v ≡ small_of x b → v ≡ away_of x
  unfolding away_of
  away_small v h e = rw (lt-ltb (exponent_field b) 1021 h, e)

  pub away_below : (w : ℕ) (v : Float) → 1021 ≤ exponent_field b → 2 ^ 63 ≤ b → w ≡ binary_exponent_of x → v ≡ below_of w → v ≡ away_of x
  unfolding away_of
  away_below w v h k e f = rw (le-ltb (exponent_field b) 1021 h, is_true (leb (2 ^ 63) b) (le→leb (2 ^ 63) b k), f, e)

  pub away_above : (w : ℕ) (v : Float) → 1021 ≤ exponent_field b → b < 2 ^ 63 → w ≡ binary_exponent_of x → v ≡ above_of w → v ≡ away_of x
  unfolding away_of
  away_above w v h k e f = rw (le-ltb (exponent_field b) 1021 h, is_false (leb (2 ^ 63) b) (not_T (leb (2 ^ 63) b) (λ (u : T (leb (2 ^ 63) b)). not-le_of_lt k (leb→le (2 ^ 63) b u))), f, e)

  module _ (t : Bool) (is : t ≡ exp_inside x) where
    pub m1_outside : t ≡ false → refused 6 ≡ exp_m1_of x
    unfolding exp_m1_of
    m1_outside h = rw (← is, h)

    pub m1_tiny : t ≡ true → exponent_field b < 969 → held x ≡ exp_m1_of x
    unfolding exp_m1_of
    m1_tiny h k = rw (← is, h, lt-ltb (exponent_field b) 969 k)

    pub m1_away : (v : Float) → t ≡ true → 969 ≤ exponent_field b → v ≡ away_of x → held v ≡ exp_m1_of x
    unfolding exp_m1_of
    m1_away v h k e = rw (← is, h, le-ltb (exponent_field b) 969 k, e)
