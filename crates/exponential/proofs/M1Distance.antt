-- exp_m1's distance: its answer is within 2 ^ -48 of every value of document 01's bracket. Assumes nothing.
use mathlib.Core.Path.{◌≡◌, refl, sym, ap, ◌∙◌, subst}
use mathlib.Core.Bool.{Bool, true, false, cond}
use Prim.Native.Nat.{ℕ, zero, suc, ◌+◌, ◌-◌, ◌*◌, ◌/◌, ◌%◌, ◌^◌, ◌≤◌, ◌<◌}
use native.Mathlib.Nat.{le_trans, le_of_eq, le_of_lt, lt_of_not-le, mul_comm, mul_assoc, mul-one, mul-le-mul, mul-le-mul_left, mul-le-mul_right, le_of_mul-le-mul_right, le-div_iff_mul-le}
use native.Mathlib.Decide.{dec_le}
use native.Mathlib.Omega.{arith}
use lib.IntN.{ℤ}
use lib.Dec.{T, leb, ltb, leb→le, le→leb, lit<, lit≤}
use borrow.Author.Tests.{lt-ltb, le-ltb}
use lib.Pow.{pow_mono, pow_pos}
use lib.Ieee.{Float, fin, up, down, binary64, fits, to_bits}
use lib.Ieee.Fits.{down_pos}
use Rattle.number.specs.Ans.{Ans, held, refused}
use Rattle.number.specs.Frac.{Frac, sgn, val_f}
use Rattle.number.proofs.Frac.{val_f_pos}
use Rattle.number.specs.Domain.{exp_inside}
use Rattle.series.specs.Exact.{ExpValue, ExpM1Value}
use Rattle.series.specs.Distance.{within}
use Rattle.series.proofs.Close.{Close}
use Rattle.exponential.specs.Exp.{binary_of, exponent_at, binary_exponent_of}
use Rattle.fixed_point.specs.Fields.{exponent_field}
use Rattle.exponential.specs.ExpM1.{small_of, below_of, above_of, away_of, exp_m1_of}
use Rattle.exponential.proofs.Decode.{units_of, decoded}
use Rattle.exponential.proofs.Argument.{exp_inside_is, negative_at, positive_at}
use Rattle.exponential.proofs.ExpNear.{argument_near}
use Rattle.exponential.proofs.RaiseNear.{Bracket, raise_bracket}
use Rattle.exponential.proofs.M1Near.{above_near, below_near}
use Rattle.exponential.proofs.M1Small.{plus_near, minus_near}
use Rattle.exponential.proofs.TinyNear.{tiny_near}

-- the exponent is that of the bits
of : (s : Bool) (m : ℕ) (e : ℤ) → exponent_at (to_bits binary64 (fin s m e)) ≡ binary_exponent_of (fin s m e)
unfolding binary_exponent_of
of s m e = refl

-- |x| over ln 2 from 1/4 on
binary_least : (b : ℕ) → 1021 ≤ exponent_field b → 42 * 2 ^ 46 ≤ binary_of b
binary_least b h = (le-div_iff_mul-le (lit< {m = 0} {n = 2 ^ 64} tt)).1 (le_trans (lit≤ tt) (mul-le-mul_right 13306513097844322491 size))
  where
    size : 2 ^ 52 ≤ (b % 2 ^ 52 + 2 ^ 52) * 2048 / 2 ^ (1032 - exponent_field b)
    size = (le-div_iff_mul-le (pow_pos (1032 - exponent_field b))).1 (le_trans (mul-le-mul_left (2 ^ 52) (pow_mono (eleven (exponent_field b) h))) (most b))
      where
        eleven : (f : ℕ) → 1021 ≤ f → 1032 - f ≤ 11
        eleven f h = omega arith

        most : (b : ℕ) → 2 ^ 52 * 2 ^ 11 ≤ (b % 2 ^ 52 + 2 ^ 52) * 2048
        most b = omega arith

module _ (s : Bool) (m : ℕ) (e : ℤ) (fit : T (fits binary64 (fin s m e))) (bound : m * up e ≤ 700 * down e) (x : Frac) (value : ExpM1Value (val_f (fin s m e)) x) where
  abbrev b : ℕ
  b = to_bits binary64 (fin s m e)

  sign_is : s ≡ leb 9223372036854775808 b
  sign_is = (decoded s m e fit b refl).0.0

  size_is : m * up e * 2 ^ 1074 ≡ units_of (exponent_field b) (b % 4503599627370496) * down e
  size_is = (decoded s m e fit b refl).0.1

  digits_lt : b % 4503599627370496 < 4503599627370496
  digits_lt = go b
    where
      go : (b : ℕ) → b % 4503599627370496 < 4503599627370496
      go b = omega arith

  negative : s ≡ true → 2 ^ 63 ≤ b
  negative p = leb→le (2 ^ 63) b (subst T (sym p ∙ sign_is) tt)

  positive : s ≡ false → b < 2 ^ 63
  positive p = go (leb (2 ^ 63) b) refl (sym sign_is ∙ p)
    where
      go : (t : Bool) → t ≡ leb (2 ^ 63) b → leb (2 ^ 63) b ≡ false → b < 2 ^ 63
      go t q r = lt_of_not-le (λ (h : 2 ^ 63 ≤ b). subst T r (le→leb (2 ^ 63) b h))

  -- ---- below 2 ^ -54
  near_tiny : exponent_field b < 969 → Close (within (2 ^ 48)) (fin s m e) x
  near_tiny h = (tt, tiny_near s (m * up e) (down e) value.e x (down_pos e) size value.proper value.is_exp value.same)
    where
      units : (f t : ℕ) → f < 969 → t < 4503599627370496 → units_of f t ≤ 2 ^ 1020
      units zero t h k = le_trans (le_of_eq (mul-one t)) (le_trans (le_of_lt k) (lit≤ tt))
      units (suc i) t h k = le_trans (mul-le-mul (wide t k) (pow_mono (last i h))) (lit≤ {m = 9007199254740992 * 2 ^ 967} {n = 2 ^ 1020} tt)
        where
          wide : (t : ℕ) → t < 4503599627370496 → 4503599627370496 + t ≤ 9007199254740992
          wide t k = omega arith

          last : (i : ℕ) → suc i < 969 → i ≤ 967
          last i h = omega arith

      size : 2 ^ 54 * (m * up e) ≤ down e
      size = le_of_mul-le-mul_right {k = 2 ^ 1020} (le_trans (le_of_eq (turn (m * up e))) (le_trans (le_of_eq size_is) (le_trans (mul-le-mul_right (down e) (units (exponent_field b) (b % 4503599627370496) h digits_lt)) (le_of_eq (mul_comm (2 ^ 1020) (down e)))))) (pow_pos 1020)
        where
          turn : (n : ℕ) → 2 ^ 54 * n * 2 ^ 1020 ≡ n * 2 ^ 1074
          turn n = ap (λ (z : ℕ). z * 2 ^ 1020) (mul_comm (2 ^ 54) n) ∙ mul_assoc n (2 ^ 54) (2 ^ 1020)

  -- ---- below 1/4
  near_small : 969 ≤ exponent_field b → exponent_field b < 1021 → Close (within (2 ^ 48)) (small_of (fin s m e) b) x
  unfolding small_of
  near_small l h = go s refl
    where
      go : (t : Bool) → s ≡ t → Close (within (2 ^ 48)) (small_of (fin s m e) b) x
      go false p =
          rw (sym sign_is ∙ p)
          (plus_near (m * up e) (down e) (exponent_field b) (b % 4503599627370496) (down_pos e) l h digits_lt size_is (fin s m e) value.e x (p, refl) value.proper (subst (λ (t : Bool). ExpValue (sgn t (m * up e) (down e)) value.e) p value.is_exp) value.same)
      go true p =
          rw (sym sign_is ∙ p)
          (minus_near (m * up e) (down e) (exponent_field b) (b % 4503599627370496) (down_pos e) l h digits_lt size_is (fin s m e) value.e x (p, refl) value.proper (subst (λ (t : Bool). ExpValue (sgn t (m * up e) (down e)) value.e) p value.is_exp) value.same)

  -- ---- from 1/4 on
  bracket : Bracket (binary_exponent_of (fin s m e)) 242 value.e
  bracket =
      let z = argument_near s m e fit bound in
      raise_bracket (binary_exponent_of (fin s m e)) 242 (val_f (fin s m e)) value.e z.1 z.2 (lit≤ tt) (val_f_pos (fin s m e)) z.0 value.is_exp

  near_below : 1021 ≤ exponent_field b → s ≡ true → Close (within (2 ^ 48)) (below_of (binary_exponent_of (fin s m e))) x
  near_below l p = below_near (binary_exponent_of (fin s m e)) (argument_near s m e fit bound).1 (subst (λ (w : ℕ). w < 1022 * 2 ^ 53 + 101 * 2 ^ 46) exponent (less (binary_of b) (binary_least b l))) value.e x value.is_exp.proper.0 value.proper bracket value.same
    where
      less : (v : ℕ) → 42 * 2 ^ 46 ≤ v → 1023 * 2 ^ 53 - v < 1022 * 2 ^ 53 + 101 * 2 ^ 46
      less v h = omega arith

      exponent : 1023 * 2 ^ 53 - binary_of b ≡ binary_exponent_of (fin s m e)
      exponent = negative_at b (binary_of b) refl (negative p) ∙ of s m e

  near_above : 1021 ≤ exponent_field b → s ≡ false → Close (within (2 ^ 48)) (above_of (binary_exponent_of (fin s m e))) x
  near_above l p = above_near (binary_exponent_of (fin s m e)) (subst (λ (w : ℕ). 1023 * 2 ^ 53 + 42 * 2 ^ 46 ≤ w) exponent (more (binary_of b) (binary_least b l))) (argument_near s m e fit bound).2 value.e x value.is_exp.proper.0 value.proper bracket value.same
    where
      more : (v : ℕ) → 42 * 2 ^ 46 ≤ v → 1023 * 2 ^ 53 + 42 * 2 ^ 46 ≤ 1023 * 2 ^ 53 + v
      more v h = omega arith

      exponent : 1023 * 2 ^ 53 + binary_of b ≡ binary_exponent_of (fin s m e)
      exponent = positive_at b (binary_of b) refl (positive p) ∙ of s m e

  pub near_away : 969 ≤ exponent_field b → Close (within (2 ^ 48)) (away_of (fin s m e)) x
  unfolding away_of
  near_away l = by_field (dec_le 1021 (exponent_field b))
    where
      by_sign : 1021 ≤ exponent_field b → (t : Bool) → s ≡ t → Close (within (2 ^ 48)) (cond (leb (2 ^ 63) b) (below_of (binary_exponent_of (fin s m e))) (above_of (binary_exponent_of (fin s m e)))) x
      by_sign h false p = rw (sym sign_is ∙ p) (near_above h p)
      by_sign h true p = rw (sym sign_is ∙ p) (near_below h p)

      by_field : Dec (1021 ≤ exponent_field b) → Close (within (2 ^ 48)) (away_of (fin s m e)) x
      by_field (yes h) = rw (le-ltb (exponent_field b) 1021 h) (by_sign h s refl)
      by_field (no h) = rw (lt-ltb (exponent_field b) 1021 (lt_of_not-le h)) (near_small l (lt_of_not-le h))

  pub near_any : Close (within (2 ^ 48)) (cond (ltb (exponent_field b) 969) (fin s m e) (away_of (fin s m e))) x
  near_any = go (dec_le 969 (exponent_field b))
    where
      go : Dec (969 ≤ exponent_field b) → Close (within (2 ^ 48)) (cond (ltb (exponent_field b) 969) (fin s m e) (away_of (fin s m e))) x
      go (yes h) = rw (le-ltb (exponent_field b) 969 h) (near_away h)
      go (no h) = rw (lt-ltb (exponent_field b) 969 (lt_of_not-le h)) (near_tiny (lt_of_not-le h))

-- 'The distance holds from every value in the bracket': whatever value exp_m1 holds, at each f64 x; and it is finite
pub exp_m1_distance : (x v : Float) (t : Frac) → T (fits binary64 x) → exp_m1_of x ≡ held v → ExpM1Value (val_f x) t → Close (within (2 ^ 48)) v t
unfolding exp_m1_of
exp_m1_distance x v t f h w = go (exp_inside x) refl h
  where
    at : (s : Bool) × (m : ℕ) × (e : ℤ) × (x ≡ fin s m e) × (m * up e ≤ 700 * down e) → T (exp_inside x) → Close (within (2 ^ 48)) (cond (ltb (exponent_field (to_bits binary64 x)) 969) x (away_of x)) t
    at (s, m, e, p, q) i = subst (λ (y : Float). Close (within (2 ^ 48)) (cond (ltb (exponent_field (to_bits binary64 y)) 969) y (away_of y)) t) (sym p) (near_any s m e (subst (λ (y : Float). T (fits binary64 y)) p f) q t (subst (λ (y : Float). ExpM1Value (val_f y) t) p w))

    go : (b : Bool) → b ≡ exp_inside x → cond b (held (cond (ltb (exponent_field (to_bits binary64 x)) 969) x (away_of x))) (refused 6) ≡ held v → Close (within (2 ^ 48)) v t
    go true p h = subst (λ (y : Float). Close (within (2 ^ 48)) y t) (same h) (at (exp_inside_is x (subst T p tt)) (subst T p tt))
      where
        same : held (cond (ltb (exponent_field (to_bits binary64 x)) 969) x (away_of x)) ≡ held v → cond (ltb (exponent_field (to_bits binary64 x)) 969) x (away_of x) ≡ v
        same h = cc
    go false p h = absurd (never h)
      where
        never : ◌≡◌ {A = Ans Float} (refused 6) (held v) → ⊥
        never h = let z : ◌≡◌ {A = ℕ} 0 1 = cc in omega arith
