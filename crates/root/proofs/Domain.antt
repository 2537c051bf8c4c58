-- The domain of the root: which of the code's tests lead where, and the pattern of a float inside. Assumes nothing.
use mathlib.Core.Path.{◌≡◌, refl, sym, ap, ◌∙◌, subst}
use mathlib.Core.Bool.{Bool, true, false, not, cond, ◌&&◌}
use Prim.Native.Nat.{ℕ, zero, suc, ◌+◌, ◌-◌, ◌*◌, ◌/◌, ◌%◌, ◌^◌, ◌≤◌, ◌<◌}
use native.Mathlib.Nat.{mul-pos, zero-mul, mul-div_cancel, zero-lt-suc, lt_of_not-le, add_comm}
use native.Mathlib.Omega.{arith}
use native.Mathlib.Decide.{dec_le}
use borrow.Author.Tests.{not-false}
use lib.Dec.{T, leb, ltb, eqb, leb→le, le→leb, lt→ltb, eqb→eq, not_T}
use lib.IntN.{ℤ}
use lib.Ieee.{Float, nan, inf, fin, fits, binary64, odd, of_fields, of_bits, to_bits, up, down, lt, eq}
use lib.Ieee.Bits.{is_true, is_false, of_bits-to_bits, to_bits-lt}
use lib.Ieee.Fits.{up_pos, down_pos, and_l}
use lib.Ieee.Exact.{HasValue, odd_sign}
use lib.Ieee.Positive.{positive}
use Rattle.number.specs.Ans.{held, refused}
use Rattle.root.specs.Root.{root, positive_root}
use Rattle.root.proofs.Pattern.{value_small, value_normal}

zero_clash : (m : ℕ) (e : ℤ) (b : Bool) → (eqb (suc m * up e * 1) (0 * 1 * down e) && b) ≡ true → ⊥
zero_clash m e b h =
    go (suc m * up e) (mul-pos (zero-lt-suc m) (up_pos e)) (down e) (eqb→eq (suc m * up e * 1) (0 * 1 * down e) (and_l (eqb (suc m * up e * 1) (0 * 1 * down e)) b (subst T (sym h) tt)))
  where
    go : (u : ℕ) → 0 < u → (d : ℕ) → u * 1 ≡ 0 * 1 * d → ⊥
    go u h d e = omega arith

pub zero_root : (x : Float) → eq x (of_bits binary64 0) ≡ true → held x ≡ root x
unfolding eq of_bits root
zero_root nan h = absurd (subst T (sym h) tt)
zero_root (inf s) h = absurd (subst T (sym h) tt)
zero_root (fin s zero e) h = refl
zero_root (fin s (suc m) e) h = absurd (zero_clash m e _ h)

is_zero : (s : Bool) (e : ℤ) → eq (fin s zero e) (of_bits binary64 0) ≡ false → ⊥
unfolding eq of_bits
is_zero true e h = let k = simp zero-mul at h in absurd (subst T k tt)
is_zero false e h = let k = simp zero-mul at h in absurd (subst T k tt)

above_zero : (m : ℕ) (e : ℤ) → lt (of_bits binary64 0) (fin false (suc m) e) ≡ true
unfolding lt of_bits
above_zero m e = is_true (ltb (0 * 1 * down e) (suc m * up e * 1)) (lt→ltb (0 * 1 * down e) (suc m * up e * 1) (go (suc m * up e) (down e) (mul-pos (zero-lt-suc m) (up_pos e))))
  where
    go : (u d : ℕ) → 0 < u → 0 * 1 * d < u * 1
    go u d h = omega arith

not_above : (s : Bool) (e : ℤ) → lt (of_bits binary64 0) (fin s zero e) ≡ true → ⊥
unfolding lt of_bits
not_above true e h = absurd (subst T (sym h) tt)
not_above false e h = let k = simp zero-mul at h in absurd (subst T (sym k) tt)

-- the code's tests
pub below_root : (x : Float) → not (lt (of_bits binary64 0) x) ≡ true → eq x (of_bits binary64 0) ≡ false → refused 6 ≡ root x
unfolding root
below_root nan h z = refl
below_root (inf s) h z = refl
below_root (fin s zero e) h z = absurd (is_zero s e z)
below_root (fin true (suc m) e) h z = refl
below_root (fin false (suc m) e) h z = absurd (subst T (sym (rw (above_zero m e) at h)) tt)

pub infinite_root : (x : Float) → not (lt x (of_bits binary64 9218868437227405312)) ≡ true → refused 6 ≡ root x
unfolding lt of_bits root
infinite_root nan h = refl
infinite_root (inf s) h = refl
infinite_root (fin s m e) h = absurd (subst T (sym h) tt)

pub inside_positive : (x : Float) → not (lt (of_bits binary64 0) x) ≡ false → not (lt x (of_bits binary64 9218868437227405312)) ≡ false → T (positive x)
unfolding lt of_bits
inside_positive nan h k = absurd (subst T h tt)
inside_positive (inf true) h k = absurd (subst T h tt)
inside_positive (inf false) h k = absurd (subst T k tt)
inside_positive (fin s zero e) h k = absurd (not_above s e (not-false _ h))
inside_positive (fin true (suc m) e) h k = absurd (subst T h tt)
inside_positive (fin false (suc m) e) h k = lt→ltb 0 (suc m) (zero-lt-suc m)

-- the root of a positive float that is n units of 2 ^ -1074
pub root_of : (x : Float) (n : ℕ) → T (positive x) → HasValue x false n (2 ^ 1074) → root x ≡ held (positive_root n)
unfolding root
root_of nan n p v = absurd p
root_of (inf s) n p v = absurd p
root_of (fin true m e) n p v = absurd p
root_of (fin false zero e) n p v = absurd p
root_of (fin false (suc m) e) n p v = ap (λ (z : ℕ). held (positive_root z)) (ap (λ (z : ℕ). z / down e) v.1 ∙ mul-div_cancel n (down_pos e))

-- ---- the pattern of a positive float is above 0 and below the infinity's
minus : (x : Float) (a c : ℕ) → HasValue x true a c → T (positive x) → ⊥
minus nan a c v p = p
minus (inf s) a c v p = p
minus (fin true m e) a c v p = p
minus (fin false m e) a c v p = subst T (sym v.0) tt

signed : (x t : ℕ) → T (positive (of_fields binary64 true x t)) → ⊥
unfolding of_fields
signed zero t p = minus (odd 53 true t 0 1074) (t * 2 ^ 0) (2 ^ 1074) (odd_sign 53 true t 0 1074) p
signed (suc x) t p = go (eqb (suc x) 2047) (eqb t 0) p
  where
    go : (b c : Bool) → T (positive (cond b (cond c (inf true) nan) (odd 53 true (4503599627370496 + t) x 1074))) → ⊥
    go true true p = p
    go true false p = p
    go false c p = minus (odd 53 true (4503599627370496 + t) x 1074) ((4503599627370496 + t) * 2 ^ x) (2 ^ 1074) (odd_sign 53 true (4503599627370496 + t) x 1074) p

last_field : (t : ℕ) → T (positive (of_fields binary64 false 2047 t)) → ⊥
unfolding of_fields
last_field t p = go (eqb t 0) p
  where
    go : (c : Bool) → T (positive (cond c (inf false) nan)) → ⊥
    go true p = p
    go false p = p

pub bounded : (b : ℕ) → b < 2 ^ 64 → T (positive (of_bits binary64 b)) → (0 < b) × (b < 9218868437227405312)
unfolding of_bits
bounded b h p = go (dec_le 9223372036854775808 b) (dec_le 9218868437227405312 b) (dec_le b 0)
  where
    sign : (s : Bool) → leb 9223372036854775808 b ≡ s → T (positive (of_fields binary64 s (b % 9223372036854775808 / 4503599627370496) (b % 4503599627370496)))
    sign s e = subst (λ (z : Bool). T (positive (of_fields binary64 z (b % 9223372036854775808 / 4503599627370496) (b % 4503599627370496)))) e p

    ones : (b : ℕ) → 9218868437227405312 ≤ b → (9223372036854775808 ≤ b → ⊥) → b % 9223372036854775808 / 4503599627370496 ≡ 2047
    ones b h k = omega arith

    plus : (9223372036854775808 ≤ b → ⊥) → leb 9223372036854775808 b ≡ false
    plus n = is_false (leb 9223372036854775808 b) (not_T (leb 9223372036854775808 b) (λ t. n (leb→le 9223372036854775808 b t)))

    none : b ≤ 0 → ⊥
    none l = subst (λ (z : ℕ). T (positive (of_bits binary64 z))) (zero_of b l) p
      where
        zero_of : (b : ℕ) → b ≤ 0 → b ≡ 0
        zero_of b l = omega arith

    go : Dec (9223372036854775808 ≤ b) → Dec (9218868437227405312 ≤ b) → Dec (b ≤ 0) → (0 < b) × (b < 9218868437227405312)
    go (yes k) l m = absurd (signed (b % 9223372036854775808 / 4503599627370496) (b % 4503599627370496) (sign true (is_true (leb 9223372036854775808 b) (le→leb 9223372036854775808 b k))))
    go (no k) (yes l) m = absurd (last_field (b % 4503599627370496) (subst (λ (z : ℕ). T (positive (of_fields binary64 false z (b % 4503599627370496)))) (ones b l k) (sign false (plus k))))
    go (no k) (no l) (yes m) = absurd (none m)
    go (no k) (no l) (no m) = (lt_of_not-le m, lt_of_not-le l)

module _ (x : Float) (f : T (fits binary64 x)) (p : T (positive x)) where
  pub pattern : (0 < to_bits binary64 x) × (to_bits binary64 x < 9218868437227405312)
  pattern = bounded (to_bits binary64 x) (to_bits-lt binary64 x f) (subst (λ (z : Float). T (positive z)) (sym (of_bits-to_bits binary64 x f)) p)

  -- from what the pattern stands for to what the float does
  read : (n : ℕ) → HasValue (of_bits binary64 (to_bits binary64 x)) false n (2 ^ 1074) → HasValue x false n (2 ^ 1074)
  read n v = subst (λ (z : Float). HasValue z false n (2 ^ 1074)) (of_bits-to_bits binary64 x f) v

  pub value_small_of : to_bits binary64 x / 4503599627370496 ≡ 0 → HasValue x false (to_bits binary64 x % 4503599627370496 * 2 ^ 0) (2 ^ 1074)
  value_small_of h =
      subst (λ (z : ℕ). HasValue x false (z * 2 ^ 0) (2 ^ 1074)) (sym (digits (to_bits binary64 x) h)) (read (to_bits binary64 x * 2 ^ 0) (value_small (to_bits binary64 x) (under (to_bits binary64 x) h)))
    where
      under : (b : ℕ) → b / 4503599627370496 ≡ 0 → b < 4503599627370496
      under b h = omega arith

      digits : (b : ℕ) → b / 4503599627370496 ≡ 0 → b % 4503599627370496 ≡ b
      digits b h = omega arith

  pub value_normal_of : (to_bits binary64 x / 4503599627370496 ≡ 0 → ⊥) → HasValue x false ((to_bits binary64 x % 4503599627370496 + 4503599627370496) * 2 ^ (to_bits binary64 x / 4503599627370496 - 1)) (2 ^ 1074)
  value_normal_of h =
      subst (λ (z : ℕ). HasValue x false (z * 2 ^ (to_bits binary64 x / 4503599627370496 - 1)) (2 ^ 1074)) (add_comm 4503599627370496 (to_bits binary64 x % 4503599627370496))
      (read ((4503599627370496 + to_bits binary64 x % 4503599627370496) * 2 ^ (to_bits binary64 x / 4503599627370496 - 1)) (value_normal (to_bits binary64 x) (over (to_bits binary64 x) h) pattern.1))
    where
      over : (b : ℕ) → (b / 4503599627370496 ≡ 0 → ⊥) → 4503599627370496 ≤ b
      over b h = omega arith
