-- tanh's distance: its answer is within 2 ^ -48 of every value of document 01's bracket. Assumes nothing.
use mathlib.Core.Path.{◌≡◌, refl, sym, ap, ◌∙◌, subst}
use mathlib.Core.Bool.{Bool, true, false, cond}
use Prim.Native.Nat.{ℕ, zero, suc, ◌+◌, ◌*◌, ◌/◌, ◌%◌, ◌^◌, ◌≤◌, ◌<◌}
use native.Mathlib.Nat.{le_trans, le_of_eq, le_of_lt, lt_of_not-le, mul_comm, mul_assoc, zero-mul, one-mul, mul-one, add-zero, mul-le-mul, mul-le-mul_right, le_of_mul-le-mul_right}
use native.Mathlib.Decide.{dec_le}
use native.Mathlib.Omega.{arith}
use lib.IntN.{ℤ}
use lib.Dec.{T, leb, ltb, leb→le, le→leb, not_T, lit≤, lit<}
use borrow.Author.Tests.{lt-ltb, le-ltb}
use lib.Pow.{pow_mono, pow_pos}
use lib.Ieee.{Float, fin, up, down, binary64, fits, to_bits}
use lib.Ieee.Bits.{is_true, is_false}
use lib.Ieee.Fits.{down_pos}
use Rattle.number.specs.Ans.{Ans, held, refused}
use Rattle.number.specs.Frac.{Frac, frac, Pos, le_f, neg_f, sub_f, mul_f, sgn, val_f}
use Rattle.number.proofs.Frac.{le_refl_f, add_mono_f, mul_f_pos, sgn_pos, val_f_pos}
use Rattle.number.specs.Domain.{tanh_inside}
use Rattle.series.specs.Sums.{nat_f, eq_f}
use Rattle.series.specs.Exact.{TanhValue}
use Rattle.series.specs.Distance.{near}
use Rattle.series.proofs.Close.{Close}
use Rattle.exponential.specs.Exp.{exponent_at}
use Rattle.fixed_point.specs.Fields.{exponent_field}
use Rattle.exponential.specs.Tanh.{tanh_ratio_of, tanh_of}
use Rattle.exponential.proofs.Decode.{units_of, decoded}
use Rattle.exponential.proofs.Argument.{units_le}
use Rattle.exponential.proofs.Bounds.{Bound, bound_eq, sub_pos}
use Rattle.exponential.proofs.Position.{M}
use Rattle.exponential.proofs.ExpNear.{bits_near}
use Rattle.exponential.proofs.RaiseNear.{Bracket, raise_bracket}
use Rattle.exponential.proofs.TanhPart.{tanh_inside_is, twice_low, twice_size, twice_units}
use Rattle.exponential.proofs.TanhNear.{tanh_near}
use Rattle.exponential.proofs.TanhTiny.{tiny_near}

-- 2x, as its sign and size
twice_is : (s : Bool) (a c : ℕ) → eq_f (mul_f (nat_f 2) (sgn s a c)) (sgn s (2 * a) c)
twice_is false a c = (one a c, two a c)
  where
    one : (a c : ℕ) → le_f (mul_f (nat_f 2) (frac a 0 c)) (frac (2 * a) 0 c)
    one a c = simp (one-mul, zero-mul, add-zero) (omega arith)

    two : (a c : ℕ) → le_f (frac (2 * a) 0 c) (mul_f (nat_f 2) (frac a 0 c))
    two a c = simp (one-mul, zero-mul, add-zero) (omega arith)
twice_is true a c = (one a c, two a c)
  where
    one : (a c : ℕ) → le_f (mul_f (nat_f 2) (frac 0 a c)) (frac 0 (2 * a) c)
    one a c = simp (one-mul, zero-mul, add-zero) (omega arith)

    two : (a c : ℕ) → le_f (frac 0 (2 * a) c) (mul_f (nat_f 2) (frac 0 a c))
    two a c = simp (one-mul, zero-mul, add-zero) (omega arith)

module _ (s : Bool) (m : ℕ) (e : ℤ) (fit : T (fits binary64 (fin s m e))) (bound : m * up e ≤ 350 * down e) (x : Frac) (value : TanhValue (val_f (fin s m e)) x) where
  abbrev b : ℕ
  b = to_bits binary64 (fin s m e)

  sign_is : s ≡ leb 9223372036854775808 b
  sign_is = (decoded s m e fit b refl).0.0

  size_is : m * up e * 2 ^ 1074 ≡ units_of (exponent_field b) (b % 4503599627370496) * down e
  size_is = (decoded s m e fit b refl).0.1

  digits_lt : b % 4503599627370496 < 4503599627370496
  digits_lt = go b
    where
      go : (b : ℕ) → b % 4503599627370496 < 4503599627370496
      go b = omega arith

  negative : s ≡ true → 2 ^ 63 ≤ b
  negative p = leb→le (2 ^ 63) b (subst T (sym p ∙ sign_is) tt)

  positive : s ≡ false → b < 2 ^ 63
  positive p = lt_of_not-le (λ (h : 2 ^ 63 ≤ b). subst T (sym sign_is ∙ p) (le→leb (2 ^ 63) b h))

  units : units_of (exponent_field b) (b % 4503599627370496) ≤ 350 * 2 ^ 1074
  units = units_le 350 m e (units_of (exponent_field b) (b % 4503599627370496)) size_is bound

  -- ---- below 2 ^ -17
  near_tiny : exponent_field b < 1006 → Close (near (2 ^ 48)) (fin s m e) x
  near_tiny h = (tt, tiny_near s (m * up e) (down e) x (down_pos e) size value)
    where
      small : (f t : ℕ) → f < 1006 → t < 4503599627370496 → units_of f t ≤ 2 ^ 1057
      small zero t h k = le_trans (le_of_eq (mul-one t)) (le_trans (le_of_lt k) (lit≤ tt))
      small (suc i) t h k = le_trans (mul-le-mul (wide t k) (pow_mono (last i h))) (lit≤ {m = 9007199254740992 * 2 ^ 1004} {n = 2 ^ 1057} tt)
        where
          wide : (t : ℕ) → t < 4503599627370496 → 4503599627370496 + t ≤ 9007199254740992
          wide t k = omega arith

          last : (i : ℕ) → suc i < 1006 → i ≤ 1004
          last i h = omega arith

      size : 2 ^ 17 * (m * up e) ≤ down e
      size = le_of_mul-le-mul_right {k = 2 ^ 1057} (le_trans (le_of_eq (turn (m * up e))) (le_trans (le_of_eq size_is) (le_trans (mul-le-mul_right (down e) (small (exponent_field b) (b % 4503599627370496) h digits_lt)) (le_of_eq (mul_comm (2 ^ 1057) (down e)))))) (pow_pos 1057)
        where
          turn : (n : ℕ) → 2 ^ 17 * n * 2 ^ 1057 ≡ n * 2 ^ 1074
          turn n = ap (λ (z : ℕ). z * 2 ^ 1057) (mul_comm (2 ^ 17) n) ∙ mul_assoc n (2 ^ 17) (2 ^ 1057)

  -- ---- from 2 ^ -17 on
  module _ (l : 1006 ≤ exponent_field b) where
    abbrev w : ℕ
    w = exponent_at (b + 2 ^ 52)

    low : exponent_field b ≤ 1031
    low = twice_low b units

    same_sign : s ≡ leb 9223372036854775808 (b + 2 ^ 52)
    same_sign = go s refl
      where
        less : (b : ℕ) → b < 2 ^ 63 → b / 2 ^ 52 % 2048 ≤ 1031 → 2 ^ 63 ≤ b + 2 ^ 52 → ⊥
        less b h k i = omega arith

        more : (b : ℕ) → 2 ^ 63 ≤ b → 2 ^ 63 ≤ b + 2 ^ 52
        more b h = omega arith

        go : (t : Bool) → s ≡ t → s ≡ leb 9223372036854775808 (b + 2 ^ 52)
        go true p = p ∙ sym (is_true (leb (2 ^ 63) (b + 2 ^ 52)) (le→leb (2 ^ 63) (b + 2 ^ 52) (more b (negative p))))
        go false p = p ∙ sym (is_false (leb (2 ^ 63) (b + 2 ^ 52)) (not_T (leb (2 ^ 63) (b + 2 ^ 52)) (λ (u : T (leb (2 ^ 63) (b + 2 ^ 52))). less b (positive p) low (leb→le (2 ^ 63) (b + 2 ^ 52) u))))

    twice_is_size : 2 * (m * up e) * 2 ^ 1074 ≡ units_of (exponent_field (b + 2 ^ 52)) ((b + 2 ^ 52) % 4503599627370496) * down e
    twice_is_size = mul_assoc 2 (m * up e) (2 ^ 1074) ∙ ap (λ (z : ℕ). 2 * z) size_is ∙ sym (mul_assoc 2 (units_of (exponent_field b) (b % 4503599627370496)) (down e)) ∙ ap (λ (z : ℕ). z * down e) (sym (twice_size b units l))

    abbrev Argument : Frac → Type 0
    Argument v = Bound (sub_f v (mul_f (frac w (1023 * 2 ^ 53) (2 ^ 53)) M)) (frac 242 0 (2 ^ 60))

    argument : Argument (sgn s (2 * (m * up e)) (down e)) × (2 ^ 53 ≤ w) × (w < 2046 * 2 ^ 53)
    argument = bits_near s (2 * (m * up e)) (down e) (b + 2 ^ 52) same_sign twice_is_size (twice_units b units l)

    abbrev v : Frac
    v = mul_f (nat_f 2) (val_f (fin s m e))

    v_pos : Pos v
    v_pos = mul_f_pos (nat_f 2) (val_f (fin s m e)) (lit< tt) (val_f_pos (fin s m e))

    bracket : Bracket w 242 value.e
    bracket = raise_bracket w 242 v value.e argument.1 argument.2 (lit≤ tt) v_pos (move (twice_is s (m * up e) (down e))) value.is_exp
      where
        move : eq_f v (sgn s (2 * (m * up e)) (down e)) → Argument v
        move q =
            let t = sgn s (2 * (m * up e)) (down e) in
            let u = mul_f (frac w (1023 * 2 ^ 53) (2 ^ 53)) M in
            bound_eq (sub_f t u) (sub_f v u) (frac 242 0 (2 ^ 60)) (sub_pos t u (sgn_pos s (2 * (m * up e)) (down e) (down_pos e)) (lit< tt)) (add_mono_f v t (neg_f u) (neg_f u) q.0 (le_refl_f (neg_f u)), add_mono_f t v (neg_f u) (neg_f u) q.1 (le_refl_f (neg_f u))) argument.0

    near_away : Close (near (2 ^ 48)) (tanh_ratio_of w) x
    near_away = tanh_near w value.e x value.is_exp.proper.0 bracket value.same

  pub near_any : Close (near (2 ^ 48)) (cond (ltb (exponent_field b) 1006) (fin s m e) (tanh_ratio_of (exponent_at (b + 2 ^ 52)))) x
  near_any = go (dec_le 1006 (exponent_field b))
    where
      go : Dec (1006 ≤ exponent_field b) → Close (near (2 ^ 48)) (cond (ltb (exponent_field b) 1006) (fin s m e) (tanh_ratio_of (exponent_at (b + 2 ^ 52)))) x
      go (yes h) = rw (le-ltb (exponent_field b) 1006 h) (near_away h)
      go (no h) = rw (lt-ltb (exponent_field b) 1006 (lt_of_not-le h)) (near_tiny (lt_of_not-le h))

-- 'The distance holds from every value in the bracket': whatever value tanh holds, at each f64 x; and it is finite
pub tanh_distance : (x v : Float) (t : Frac) → T (fits binary64 x) → tanh_of x ≡ held v → TanhValue (val_f x) t → Close (near (2 ^ 48)) v t
unfolding tanh_of
tanh_distance x v t f h w = go (tanh_inside x) refl h
  where
    at : (s : Bool) × (m : ℕ) × (e : ℤ) × (x ≡ fin s m e) × (m * up e ≤ 350 * down e) → Close (near (2 ^ 48)) (cond (ltb (exponent_field (to_bits binary64 x)) 1006) x (tanh_ratio_of (exponent_at (to_bits binary64 x + 2 ^ 52)))) t
    at (s, m, e, p, q) = subst (λ (y : Float). Close (near (2 ^ 48)) (cond (ltb (exponent_field (to_bits binary64 y)) 1006) y (tanh_ratio_of (exponent_at (to_bits binary64 y + 2 ^ 52)))) t) (sym p) (near_any s m e (subst (λ (y : Float). T (fits binary64 y)) p f) q t (subst (λ (y : Float). TanhValue (val_f y) t) p w))

    go : (b : Bool) → b ≡ tanh_inside x → cond b (held (cond (ltb (exponent_field (to_bits binary64 x)) 1006) x (tanh_ratio_of (exponent_at (to_bits binary64 x + 2 ^ 52))))) (refused 6) ≡ held v → Close (near (2 ^ 48)) v t
    go true p h = subst (λ (y : Float). Close (near (2 ^ 48)) y t) (same h) (at (tanh_inside_is x (subst T p tt)))
      where
        same : held (cond (ltb (exponent_field (to_bits binary64 x)) 1006) x (tanh_ratio_of (exponent_at (to_bits binary64 x + 2 ^ 52)))) ≡ held v → cond (ltb (exponent_field (to_bits binary64 x)) 1006) x (tanh_ratio_of (exponent_at (to_bits binary64 x + 2 ^ 52))) ≡ v
        same h = cc
    go false p h = absurd (never h)
      where
        never : ◌≡◌ {A = Ans Float} (refused 6) (held v) → ⊥
        never h = let z : ◌≡◌ {A = ℕ} 0 1 = cc in omega arith
