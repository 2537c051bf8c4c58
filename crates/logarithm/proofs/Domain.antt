-- What the tests of the domain decide. Assumes nothing.
use mathlib.Core.Path.{◌≡◌, refl, sym, ap, ◌∙◌, subst}
use mathlib.Core.Bool.{Bool, true, false, cond, not}
use Prim.Native.Nat.{ℕ, ◌+◌, ◌*◌, ◌/◌, ◌%◌, ◌^◌, ◌≤◌, ◌<◌}
use native.Mathlib.Nat.{le_trans, le_of_eq, not-le_of_lt, lt_of_not-le, lt_of_lt_of_le, mul-one, one-mul, mul_comm, mul-pos, mul-le-mul_left, le_of_mul-le-mul_right, zero-add}
use native.Mathlib.Decide.{dec_le}
use native.Mathlib.Omega.{arith}
use lib.Dec.{T, eqb, ltb→lt, lit<, lit≤}
use lib.Pow.{pow_pos}
use lib.Ieee.Bits.{of_bits-to_bits, to_bits-lt}
use lib.Ieee.Positive.{positive_of_value}
use lib.Ieee.{Float, nan, inf, fin, up, down, binary64, of_bits, to_bits, fits, is_nan, neg, lt, le}
use lib.Ieee.Exact.{HasValue}
use Rattle.number.specs.Ans.{held, refused}
use Rattle.number.specs.Domain.{ln_inside}
use Rattle.fixed_point.proofs.Patterns64.{sign_bit, val, val_mono, bits_is}
use Rattle.fixed_point.proofs.Decode.{large_is, sign_of, bits_to}
use Rattle.logarithm.specs.Logarithm.{ln_bits, ln_of, value1p, ln1p_of}

-- a NaN is at most nothing
pub no_nan : (x a : Float) → le x a ≡ true → T (not (is_nan x))
unfolding le is_nan
no_nan x a h = go x (subst T (sym h) tt)
  where
    go : (x : Float) → T (le x a) → T (not (is_nan x))
    go nan t = t
    go (inf s) t = tt
    go (fin s m e) t = tt

-- t is the test's answer
module _ (x : Float) (t : Bool) (is : t ≡ ln_inside x) where
  pub ln_outside : t ≡ false → refused 6 ≡ ln_of x
  unfolding ln_of
  ln_outside h = rw (← is, h)

  pub ln_value : (v : Float) → t ≡ true → v ≡ ln_bits (to_bits binary64 x) → held v ≡ ln_of x
  unfolding ln_of
  ln_value v h e = rw (← is, h, e)

-- ---- `ln_1p`
module _ (x : Float) where
  pub ln_1p_below : lt (neg (of_bits binary64 0x3ff0_0000_0000_0000)) x ≡ false → refused 6 ≡ ln1p_of x
  unfolding ln1p_of
  ln_1p_below p = rw p

  pub ln_1p_above : lt (neg (of_bits binary64 0x3ff0_0000_0000_0000)) x ≡ true → le x (of_bits binary64 0x4130_0000_0000_0000) ≡ false → refused 6 ≡ ln1p_of x
  unfolding ln1p_of
  ln_1p_above p q = rw (p, q)

  pub ln_1p_inside : (v : Float) → lt (neg (of_bits binary64 0x3ff0_0000_0000_0000)) x ≡ true → le x (of_bits binary64 0x4130_0000_0000_0000) ≡ true → v ≡ value1p x → held v ≡ ln1p_of x
  unfolding ln1p_of
  ln_1p_inside v p q e = rw (p, q, e)

-- what is not finite is not in between, nor is a number with a minus and of a size of 1 or more
not_under : (s t : Bool) → T (le (cond t (inf s) nan) (of_bits binary64 0x4130_0000_0000_0000)) → T (lt (neg (of_bits binary64 0x3ff0_0000_0000_0000)) (cond t (inf s) nan)) → ⊥
unfolding le lt neg of_bits
not_under false true h k = absurd h
not_under true true h k = absurd k
not_under s false h k = absurd h

minus_one : (x : Float) (a c : ℕ) → HasValue x true a c → 0 < c → c ≤ a → T (lt (neg (of_bits binary64 0x3ff0_0000_0000_0000)) x) → ⊥
unfolding lt neg of_bits
minus_one nan a c h p l k = absurd h
minus_one (inf s) a c h p l k = absurd h
minus_one (fin false m e) a c h p l k = differ h.0
  where
    differ : false ≡ true → ⊥
    differ q = subst T (sym q) tt
minus_one (fin true m e) a c h p l k = not-le_of_lt (ltb→lt (m * up e * 1) (1 * 1 * down e) k) (le_trans (le_of_eq (one-mul (down e))) (le_trans (le_of_mul-le-mul_right {k = c} (le_trans (mul-le-mul_left (down e) l) (le_of_eq (mul_comm (down e) a ∙ sym h.1))) p) (le_of_eq (sym (mul-one (m * up e))))))

-- so the exponent's field and the sign keep the numbers that are worked with in range
pub range_1p : (x : Float) → T (fits binary64 x) → lt (neg (of_bits binary64 0x3ff0_0000_0000_0000)) x ≡ true → le x (of_bits binary64 0x4130_0000_0000_0000) ≡ true
    → to_bits binary64 x / 2 ^ 52 % 2048 + 21 * (to_bits binary64 x / 2 ^ 63) ≤ 1043
range_1p x f below above = go (to_bits binary64 x) refl (sign_of (to_bits binary64 x) (to_bits-lt binary64 x f))
  where
    plus_range : (m : ℕ) → m ≤ 4697254411347427328 → (0 + m) / 2 ^ 52 % 2048 + 21 * ((0 + m) / 2 ^ 63) ≤ 1043
    plus_range m h = omega arith

    minus_range : (m : ℕ) → m < 4607182418800017408 → (9223372036854775808 + m) / 2 ^ 52 % 2048 + 21 * ((9223372036854775808 + m) / 2 ^ 63) ≤ 1043
    minus_range m h = omega arith

    small : (m : ℕ) → m < 4503599627370496 → m ≤ 4697254411347427328
    small m h = omega arith

    wide : (m : ℕ) → 9218868437227405312 ≤ m → 4607182418800017408 ≤ m
    wide m h = omega arith

    read : (b : ℕ) → b ≡ to_bits binary64 x → of_bits binary64 b ≡ x
    read b e = ap (of_bits binary64) e ∙ of_bits-to_bits binary64 x f

    T-below : T (lt (neg (of_bits binary64 0x3ff0_0000_0000_0000)) x)
    T-below = subst T (sym below) tt

    T-above : T (le x (of_bits binary64 0x4130_0000_0000_0000))
    T-above = subst T (sym above) tt

    not_finite : (s : Bool) (m : ℕ) → sign_bit s + m ≡ to_bits binary64 x → 9218868437227405312 ≤ m → m < 9223372036854775808 → ⊥
    not_finite s m e h k =
        let q = sym (read (sign_bit s + m) e) ∙ large_is s m h k in
        not_under s (eqb (m % 4503599627370496) 0) (subst (λ (z : Float). T (le z (of_bits binary64 0x4130_0000_0000_0000))) q T-above) (subst (λ (z : Float). T (lt (neg (of_bits binary64 0x3ff0_0000_0000_0000)) z)) q T-below)

    plus : (m : ℕ) → 0 + m ≡ to_bits binary64 x → m < 9223372036854775808 → Dec (4503599627370496 ≤ m) → Dec (9218868437227405312 ≤ m) → m ≤ 4697254411347427328
    plus m e k (no a) b = small m (lt_of_not-le a)
    plus m e k (yes a) (yes b) = absurd (not_finite false m e b k)
    plus m e k (yes a) (no b) =
        let p = positive_of_value x (val m) (2 ^ 1074) (subst (λ (z : Float). HasValue z false (val m) (2 ^ 1074)) (read (0 + m) e) (bits_is false m a (lt_of_not-le b))) (lt_of_lt_of_le (mul-pos {m = 4503599627370496} (lit< tt) (pow_pos 0)) (val_mono 4503599627370496 m (lit≤ tt) a)) in
        subst (λ (z : ℕ). z ≤ 4697254411347427328) (sym e ∙ zero-add m) (bits_to x f p 4697254411347427328 (lit≤ tt) (lit< tt) T-above)

    minus : (m : ℕ) → 9223372036854775808 + m ≡ to_bits binary64 x → m < 9223372036854775808 → Dec (4607182418800017408 ≤ m) → Dec (9218868437227405312 ≤ m) → m < 4607182418800017408
    minus m e k (no a) b = lt_of_not-le a
    minus m e k (yes a) (yes b) = absurd (not_finite true m e b k)
    minus m e k (yes a) (no b) = absurd (minus_one x (val m) (2 ^ 1074) (subst (λ (z : Float). HasValue z true (val m) (2 ^ 1074)) (read (9223372036854775808 + m) e) (bits_is true m (le_trans (lit≤ tt) a) (lt_of_not-le b))) (pow_pos 1074) (le_trans (lit≤ {m = 2 ^ 1074} {n = val 4607182418800017408} tt) (val_mono 4607182418800017408 m (lit≤ tt) a)) T-below)

    go : (b : ℕ) → b ≡ to_bits binary64 x → (s : Bool) × (m : ℕ) × (b ≡ sign_bit s + m) × (m < 9223372036854775808) → b / 2 ^ 52 % 2048 + 21 * (b / 2 ^ 63) ≤ 1043
    go b e (false, m, q, h) = subst (λ (z : ℕ). z / 2 ^ 52 % 2048 + 21 * (z / 2 ^ 63) ≤ 1043) (sym q) (plus_range m (plus m (sym q ∙ e) h (dec_le 4503599627370496 m) (dec_le 9218868437227405312 m)))
    go b e (true, m, q, h) = subst (λ (z : ℕ). z / 2 ^ 52 % 2048 + 21 * (z / 2 ^ 63) ≤ 1043) (sym q) (minus_range m (minus m (sym q ∙ e) h (dec_le 4607182418800017408 m) (dec_le 9218868437227405312 m)))
