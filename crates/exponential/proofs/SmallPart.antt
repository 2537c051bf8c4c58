-- exp x - 1 near 0: the numbers of its quotient stay in range. Assumes nothing.
use mathlib.Core.Path.{◌≡◌, refl, sym, subst}
use mathlib.Core.Bool.{Bool, true, false, cond}
use Prim.Native.Nat.{ℕ, ◌+◌, ◌-◌, ◌*◌, ◌/◌, ◌^◌, ◌≤◌, ◌<◌}
use native.Mathlib.Nat.{le_trans, mul-le-mul, mul-le-mul_right, div-le_of_le-mul}
use native.Mathlib.Omega.{arith}
use lib.IntN.{pos}
use lib.Dec.{T, leb, le→leb, lit≤}
use lib.Pow.{pow_mono}
use lib.Ieee.{Float, binary64, of_int, in_float, mul, div}
use Rattle.fixed_point.specs.Horner.{horner}
use Rattle.fixed_point.specs.Fields.{exponent_field}
use Rattle.exponential.specs.ExpM1.{over_terms, under_terms, under_of, digits_of, small_of}
use Rattle.fixed_point.proofs.Run.{under_total}

pub square_le : (s : ℕ) → s ≤ 2 ^ 62 → s * s / 2 ^ 64 ≤ 2 ^ 60
square_le s h = div-le_of_le-mul (2 ^ 64) (le_trans (mul-le-mul h h) (lit≤ tt))

wide : (q : ℕ) → q ≤ 2 ^ 60 → q ≤ 2 ^ 64
wide q h = omega arith

pub over_top : (q : ℕ) → q ≤ 2 ^ 60 → horner over_terms q ≤ 31 * 2 ^ 58
over_top q h = le_trans (under_total over_terms q (wide q h)) (lit≤ tt)

pub over_most : (q : ℕ) → q ≤ 2 ^ 60 → horner over_terms q ≤ 2 ^ 63
over_most q h = le_trans (over_top q h) (lit≤ tt)

pub over_least : (q : ℕ) → 15120 * 2 ^ 49 ≤ horner over_terms q
unfolding horner
over_least q = more _
  where
    more : (y : ℕ) → 15120 * 2 ^ 49 ≤ 8511803295730238385 + y
    more y = omega arith

under_most : (q : ℕ) → q ≤ 2 ^ 60 → horner under_terms q ≤ 33 * 2 ^ 58
under_most q h = le_trans (under_total under_terms q (wide q h)) (lit≤ tt)

under_least : (q : ℕ) → 15120 * 2 ^ 49 ≤ horner under_terms q
unfolding horner
under_least q = more _
  where
    more : (y : ℕ) → 15120 * 2 ^ 49 ≤ 8511803295730238385 + y
    more y = omega arith

half_most : (s a : ℕ) → s ≤ 2 ^ 62 → a ≤ 2 ^ 63 → s * a / 2 ^ 64 / 2 ≤ 2 ^ 60
half_most s a h k = go (s * a / 2 ^ 64) (div-le_of_le-mul (2 ^ 64) (le_trans (mul-le-mul h k) (lit≤ tt)))
  where
    go : (x : ℕ) → x ≤ 2 ^ 61 → x / 2 ≤ 2 ^ 60
    go x h = omega arith

-- ---- as the program has it
module _ (s q a c x : ℕ) (S : s ≤ 2 ^ 62) (Q : q ≤ 2 ^ 60) (A : a ≤ 2 ^ 63) (c_is : c ≡ horner under_terms q) (x_is : x ≡ s * a / 2 ^ 64) where
  c_lo : 15120 * 2 ^ 49 ≤ c
  c_lo = subst (λ (z : ℕ). 15120 * 2 ^ 49 ≤ z) (sym c_is) (under_least q)

  c_hi : c ≤ 33 * 2 ^ 58
  c_hi = subst (λ (z : ℕ). z ≤ 33 * 2 ^ 58) (sym c_is) (under_most q Q)

  x_hi : x / 2 ≤ 2 ^ 60
  x_hi = subst (λ (z : ℕ). z / 2 ≤ 2 ^ 60) (sym x_is) (half_most s a S A)

  pub less_fits : x / 2 ≤ c
  less_fits = go c (x / 2) c_lo x_hi
    where
      go : (c h : ℕ) → 15120 * 2 ^ 49 ≤ c → h ≤ 2 ^ 60 → h ≤ c
      go c h k l = omega arith

  pub more_fits : c + x / 2 < 2 ^ 64
  more_fits = go c (x / 2) c_hi x_hi
    where
      go : (c h : ℕ) → c ≤ 33 * 2 ^ 58 → h ≤ 2 ^ 60 → c + h < 2 ^ 64
      go c h k l = omega arith

  pub less_is : (g : Bool) → g ≡ false → c - x / 2 ≡ under_of g s q a
  unfolding under_of
  less_is g h = rw (h, c_is, x_is)

  pub more_is : (g : Bool) → g ≡ true → c + x / 2 ≡ under_of g s q a
  unfolding under_of
  more_is g h = rw (h, c_is, x_is)

module _ (g : Bool) (s q a : ℕ) (S : s ≤ 2 ^ 62) (Q : q ≤ 2 ^ 60) (A : a ≤ 2 ^ 63) where
  pub below_least : 3 * 2 ^ 61 ≤ under_of g s q a
  unfolding under_of
  below_least = go g
    where
      plus : (c h : ℕ) → 15120 * 2 ^ 49 ≤ c → 3 * 2 ^ 61 ≤ c + h
      plus c h k = omega arith

      minus : (c h : ℕ) → 15120 * 2 ^ 49 ≤ c → h ≤ 2 ^ 60 → 3 * 2 ^ 61 ≤ c - h
      minus c h k l = omega arith

      go : (g : Bool) → 3 * 2 ^ 61 ≤ cond g (horner under_terms q + s * a / 2 ^ 64 / 2) (horner under_terms q - s * a / 2 ^ 64 / 2)
      go true = plus (horner under_terms q) (s * a / 2 ^ 64 / 2) (under_least q)
      go false = minus (horner under_terms q) (s * a / 2 ^ 64 / 2) (under_least q) (half_most s a S A)

  pub below_most : under_of g s q a ≤ 37 * 2 ^ 58
  unfolding under_of
  below_most = go g
    where
      plus : (c h : ℕ) → c ≤ 33 * 2 ^ 58 → h ≤ 2 ^ 60 → c + h ≤ 37 * 2 ^ 58
      plus c h k l = omega arith

      minus : (c h : ℕ) → c ≤ 33 * 2 ^ 58 → c - h ≤ 37 * 2 ^ 58
      minus c h k = omega arith

      go : (g : Bool) → cond g (horner under_terms q + s * a / 2 ^ 64 / 2) (horner under_terms q - s * a / 2 ^ 64 / 2) ≤ 37 * 2 ^ 58
      go true = plus (horner under_terms q) (s * a / 2 ^ 64 / 2) (under_most q Q) (half_most s a S A)
      go false = minus (horner under_terms q) (s * a / 2 ^ 64 / 2) (under_most q Q)

pub under_minus : (s q a : ℕ) → under_of true s q a ≡ horner under_terms q + s * a / 2 ^ 64 / 2
unfolding under_of
under_minus s q a = refl

pub under_plus : (s q a : ℕ) → s ≤ 2 ^ 62 → a ≤ 2 ^ 63 → under_of false s q a + s * a / 2 ^ 64 / 2 ≡ horner under_terms q
unfolding under_of
under_plus s q a S A = go (horner under_terms q) (s * a / 2 ^ 64 / 2) (under_least q) (half_most s a S A)
  where
    go : (c h : ℕ) → 15120 * 2 ^ 49 ≤ c → h ≤ 2 ^ 60 → c - h + h ≡ c
    go c h k l = omega arith

-- ---- the digits moved to the units of 2 ^ -64
pub moved_le : (d n : ℕ) → d < 2 ^ 64 → 2 ≤ n → d / 2 ^ n ≤ 2 ^ 62
moved_le d n h k = div-le_of_le-mul (2 ^ n) (le_trans (lin d h) (mul-le-mul_right (2 ^ 62) (pow_mono k)))
  where
    lin : (d : ℕ) → d < 2 ^ 64 → d ≤ 2 ^ 2 * 2 ^ 62
    lin d h = omega arith

digits_hi : (b : ℕ) → digits_of b < 2 ^ 64
digits_hi b = omega arith

-- ---- the quotient: s, q, a and d as the program has them
part_fits : (n : ℕ) → n ≤ 37 * 2 ^ 58 → T (in_float binary64 (pos (n / 2048)))
unfolding in_float
part_fits n h = le→leb (n / 2048) (2 ^ 53) (go n h)
  where
    go : (n : ℕ) → n ≤ 37 * 2 ^ 58 → n / 2048 ≤ 2 ^ 53
    go n h = omega arith

module _ (b s q a : ℕ) (F : exponent_field b < 1021) (s-is : s ≡ digits_of b / 2 ^ (1022 - exponent_field b)) (q_is : q ≡ s * s / 2 ^ 64) where
  pub s_le : s ≤ 2 ^ 62
  s_le = subst (λ (x : ℕ). x ≤ 2 ^ 62) (sym s-is) (moved_le (digits_of b) (1022 - exponent_field b) (digits_hi b) (two (exponent_field b) F))
    where
      two : (f : ℕ) → f < 1021 → 2 ≤ 1022 - f
      two f h = omega arith

  pub q_le : q ≤ 2 ^ 60
  q_le = subst (λ (x : ℕ). x ≤ 2 ^ 60) (sym q_is) (square_le s s_le)

  module _ (a-is : a ≡ horner over_terms q) where
    pub a_le : a ≤ 2 ^ 63
    a_le = subst (λ (x : ℕ). x ≤ 2 ^ 63) (sym a-is) (over_most q q_le)

    pub over_fits : T (in_float binary64 (pos (a / 2048)))
    over_fits = part_fits a (le_trans a_le (lit≤ tt))

    module _ (d : ℕ) (d_is : d ≡ under_of (leb (2 ^ 63) b) s q a) where
      pub under_fits : T (in_float binary64 (pos (d / 2048)))
      under_fits = part_fits d (subst (λ (x : ℕ). x ≤ 37 * 2 ^ 58) (sym d_is) (below_most (leb (2 ^ 63) b) s q a s_le q_le a_le))

      pub small_is : (x : Float) → div binary64 (mul binary64 x (of_int binary64 (pos (a / 2048)))) (of_int binary64 (pos (d / 2048))) ≡ small_of x b
      unfolding small_of
      small_is x = rw (d_is, a-is, q_is, s-is)
