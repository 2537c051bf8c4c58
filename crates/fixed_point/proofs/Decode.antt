-- The bits of an f64: which number each pattern stands for, and the bits of a number in a range. Assumes nothing.
use mathlib.Core.Path.{◌≡◌, refl, sym, ap, ◌∙◌, subst}
use mathlib.Core.Logic.{◌⊎◌, inl, inr}
use mathlib.Core.Bool.{Bool, true, false, cond}
use Prim.Native.Nat.{ℕ, zero, suc, ◌+◌, ◌-◌, ◌*◌, ◌/◌, ◌%◌, ◌^◌, ◌≤◌, ◌<◌}
use native.Mathlib.Nat.{le_of_lt, lt_of_not-le, not-le_of_lt, div-eq_of_lt, mod-eq_of_lt, mul-one, mul-pos, zero-add, le_trans, lt_of_lt_of_le, le-suc, le-add_right, eq-zero-or-pos, mul-lt-mul_of_pos_right, le_of_mul-le-mul_right, pow-suc}
use native.Mathlib.Decide.{dec_le}
use native.Mathlib.Omega.{arith}
use lib.Dec.{T, eqb, lit<, lit≤}
use lib.Ieee.Fits.{eq→eqb}
use lib.Pow.{pow_pos}
use lib.Ieee.{Float, nan, inf, fin, binary64, odd, of_fields, of_bits, to_bits, fits, le}
use lib.Ieee.Bits.{is_true, of_bits-to_bits, to_bits-lt}
use lib.Ieee.Exact.{HasValue, odd_sign}
use lib.Ieee.Positive.{positive, positive_of_value, values_of_le}
use Rattle.fixed_point.proofs.Patterns64.{sign_bit, fields, val, val_mono, bits_is}

zero_field : (s : Bool) (t : ℕ) → of_fields binary64 s 0 t ≡ odd 53 s t 0 1074
unfolding of_fields
zero_field s t = refl

ones_field : (s : Bool) (t x : ℕ) → x ≡ 2047 → of_fields binary64 s x t ≡ cond (eqb t 0) (inf s) nan
unfolding of_fields
ones_field s t zero e = absurd (no e)
  where
    no : ◌≡◌ {A = ℕ} 0 2047 → ⊥
    no e = omega arith
ones_field s t (suc x) e = ap (λ (c : Bool). cond c (cond (eqb t 0) (inf s) nan) (odd 53 s (4503599627370496 + t) x 1074)) (is_true (eqb (suc x) 2047) (eq→eqb e))

-- ---- patterns below 2 ^ 52: no leading digit
pub small_is : (s : Bool) (b : ℕ) → b < 4503599627370496 → HasValue (of_bits binary64 (sign_bit s + b)) s b (2 ^ 1074)
small_is s b h = subst (λ (x : Float). HasValue x s b (2 ^ 1074)) (sym is) (subst (λ (a : ℕ). HasValue (odd 53 s b 0 1074) s a (2 ^ 1074)) (mul-one b) (odd_sign 53 s b 0 1074))
  where
    wide : (b : ℕ) → b < 4503599627370496 → b < 9223372036854775808
    wide b h = omega arith

    low : (s : Bool) (t : ℕ) → of_fields binary64 s 0 t ≡ odd 53 s t 0 1074
    low s t = zero_field s t

    is : of_bits binary64 (sign_bit s + b) ≡ odd 53 s b 0 1074
    is = fields s b (wide b h) ∙ ap (λ (x : ℕ). of_fields binary64 s x (b % 4503599627370496)) (div-eq_of_lt h) ∙ ap (of_fields binary64 s 0) (mod-eq_of_lt h) ∙ low s b

plain : (b : ℕ) → 4503599627370496 ≤ b → b < 9218868437227405312 → HasValue (of_bits binary64 b) false (val b) (2 ^ 1074)
plain b h k = subst (λ (x : ℕ). HasValue (of_bits binary64 x) false (val b) (2 ^ 1074)) (zero-add b) (bits_is false b h k)

-- ---- patterns from 2047 * 2 ^ 52 on: not finite
pub large_is : (s : Bool) (b : ℕ) → 9218868437227405312 ≤ b → b < 9223372036854775808 → of_bits binary64 (sign_bit s + b) ≡ cond (eqb (b % 4503599627370496) 0) (inf s) nan
large_is s b h k = fields s b k ∙ ones_field s (b % 4503599627370496) (b / 4503599627370496) (field b h k)
  where
    field : (b : ℕ) → 9218868437227405312 ≤ b → b < 9223372036854775808 → b / 4503599627370496 ≡ 2047
    field b h k = omega arith

pub large_not : (s : Bool) (b : ℕ) → 9218868437227405312 ≤ b → b < 9223372036854775808 → T (positive (of_bits binary64 (sign_bit s + b))) → ⊥
large_not s b h k p = go (eqb (b % 4503599627370496) 0) (subst (λ (x : Float). T (positive x)) (large_is s b h k) p)
  where
    go : (t : Bool) → T (positive (cond t (inf s) nan)) → ⊥
    go true p = absurd p
    go false p = absurd p

-- a number with a minus is not positive
pub minus_not : (x : Float) (a c : ℕ) → HasValue x true a c → T (positive x) → ⊥
minus_not nan a c h p = absurd h
minus_not (inf s) a c h p = absurd h
minus_not (fin true m e) a c h p = absurd p
minus_not (fin false m e) a c h p = differ h.0
  where
    differ : false ≡ true → ⊥
    differ q = subst T (sym q) tt

-- ---- the bits of a number that the format holds
pub sign_of : (b : ℕ) → b < 2 * 9223372036854775808 → (s : Bool) × (m : ℕ) × (b ≡ sign_bit s + m) × (m < 9223372036854775808)
sign_of b h = go (dec_le 9223372036854775808 b)
  where
    minus : (b : ℕ) → 9223372036854775808 ≤ b → b ≡ 9223372036854775808 + (b - 9223372036854775808)
    minus b h = omega arith

    less : (b : ℕ) → b < 2 * 9223372036854775808 → b - 9223372036854775808 < 9223372036854775808
    less b h = omega arith

    plus : (b : ℕ) → b ≡ 0 + b
    plus b = omega arith

    go : Dec (9223372036854775808 ≤ b) → (s : Bool) × (m : ℕ) × (b ≡ sign_bit s + m) × (m < 9223372036854775808)
    go (yes l) = (true, b - 9223372036854775808, minus b l, less b h)
    go (no l) = (false, b, plus b, lt_of_not-le l)

-- a positive number's bits: no sign, and no more than the largest
pub positive_bits : (x : Float) → T (fits binary64 x) → T (positive x) → to_bits binary64 x < 9218868437227405312
positive_bits x f p = go (to_bits binary64 x) (of_bits-to_bits binary64 x f) (sign_of (to_bits binary64 x) (to_bits-lt binary64 x f))
  where
    at : (b : ℕ) → of_bits binary64 b ≡ x → T (positive (of_bits binary64 b))
    at b e = subst (λ (z : Float). T (positive z)) (sym e) p

    minus_case : (m : ℕ) → m < 9223372036854775808 → T (positive (of_bits binary64 (9223372036854775808 + m))) → ⊥
    minus_case m h q = kinds (dec_le 4503599627370496 m) (dec_le 9218868437227405312 m)
      where
        kinds : Dec (4503599627370496 ≤ m) → Dec (9218868437227405312 ≤ m) → ⊥
        kinds (no a) b = minus_not (of_bits binary64 (9223372036854775808 + m)) m (2 ^ 1074) (small_is true m (lt_of_not-le a)) q
        kinds (yes a) (yes b) = large_not true m b h q
        kinds (yes a) (no b) = minus_not (of_bits binary64 (9223372036854775808 + m)) (val m) (2 ^ 1074) (bits_is true m a (lt_of_not-le b)) q

    under : (m : ℕ) → m < 9223372036854775808 → T (positive (of_bits binary64 (0 + m))) → Dec (9218868437227405312 ≤ m) → 0 + m < 9218868437227405312
    under m h q (yes a) = absurd (large_not false m a h q)
    under m h q (no a) = omega (arith, lt_of_not-le a)

    go : (b : ℕ) → of_bits binary64 b ≡ x → (s : Bool) × (m : ℕ) × (b ≡ sign_bit s + m) × (m < 9223372036854775808) → b < 9218868437227405312
    go b e (true, m, q, h) = absurd (minus_case m h (subst (λ (z : ℕ). T (positive (of_bits binary64 z))) q (at b e)))
    go b e (false, m, q, h) = subst (λ (z : ℕ). z < 9218868437227405312) (sym q) (under m h (subst (λ (z : ℕ). T (positive (of_bits binary64 z))) q (at b e)) (dec_le 9218868437227405312 m))

-- ---- the order of numbers is that of their bits
next_field : (b : ℕ) → suc b % 4503599627370496 ≡ 0 → 4503599627370496 ≤ b → (suc b / 4503599627370496 - 1 ≡ suc (b / 4503599627370496 - 1)) × (b % 4503599627370496 ≡ 4503599627370495)
next_field b h k = (omega arith, omega arith)

same_field : (b : ℕ) → 0 < suc b % 4503599627370496 → (suc b / 4503599627370496 ≡ b / 4503599627370496) × (suc b % 4503599627370496 ≡ suc (b % 4503599627370496))
same_field b h = (omega arith, omega arith)

val_next : (b : ℕ) → 4503599627370496 ≤ b → val b < val (suc b)
val_next b h = go (eq-zero-or-pos (suc b % 4503599627370496))
  where
    one_more : (m x : ℕ) → 0 < x → (4503599627370496 + m) * x < (4503599627370496 + suc m) * x
    one_more m x h = mul-lt-mul_of_pos_right (lin m) h
      where
        lin : (m : ℕ) → 4503599627370496 + m < 4503599627370496 + suc m
        lin m = omega arith

    carried : (x : ℕ) → 0 < x → (4503599627370496 + 4503599627370495) * x < (4503599627370496 + 0) * (x * 2)
    carried x h = omega arith

    go : (suc b % 4503599627370496 ≡ 0) ⊎ (0 < suc b % 4503599627370496) → val b < val (suc b)
    go (inl z) =
        let n = next_field b z h in
        subst (λ (r : ℕ). (4503599627370496 + r) * 2 ^ (b / 4503599627370496 - 1) < val (suc b)) (sym n.1)
        (subst (λ (r : ℕ). (4503599627370496 + 4503599627370495) * 2 ^ (b / 4503599627370496 - 1) < (4503599627370496 + r) * 2 ^ (suc b / 4503599627370496 - 1)) (sym z)
        (subst (λ (f : ℕ). (4503599627370496 + 4503599627370495) * 2 ^ (b / 4503599627370496 - 1) < (4503599627370496 + 0) * 2 ^ f) (sym n.0)
        (subst (λ (t : ℕ). (4503599627370496 + 4503599627370495) * 2 ^ (b / 4503599627370496 - 1) < (4503599627370496 + 0) * t) (sym (pow-suc 2 (b / 4503599627370496 - 1))) (carried (2 ^ (b / 4503599627370496 - 1)) (pow_pos (b / 4503599627370496 - 1))))))
    go (inr p) =
        let n = same_field b p in
        subst (λ (f : ℕ). val b < (4503599627370496 + suc b % 4503599627370496) * 2 ^ (f - 1)) (sym n.0)
        (subst (λ (r : ℕ). val b < (4503599627370496 + r) * 2 ^ (b / 4503599627370496 - 1)) (sym n.1) (one_more (b % 4503599627370496) (2 ^ (b / 4503599627370496 - 1)) (pow_pos (b / 4503599627370496 - 1))))

pub val_strict : (b c : ℕ) → 4503599627370496 ≤ b → b < c → val b < val c
val_strict b c h k = lt_of_lt_of_le (val_next b h) (val_mono (suc b) c (le_trans h (le-suc b)) k)

-- a normal number's value by its bits
pub normal_value : (x : Float) → T (fits binary64 x) → 4503599627370496 ≤ to_bits binary64 x → to_bits binary64 x < 9218868437227405312 → HasValue x false (val (to_bits binary64 x)) (2 ^ 1074)
normal_value x f h k = subst (λ (z : Float). HasValue z false (val (to_bits binary64 x)) (2 ^ 1074)) (of_bits-to_bits binary64 x f) (plain (to_bits binary64 x) h k)

module _ (x : Float) (f : T (fits binary64 x)) (p : T (positive x)) (c : ℕ) (cl : 4503599627370496 ≤ c) (ch : c < 9218868437227405312) where
  limit_value : HasValue (of_bits binary64 c) false (val c) (2 ^ 1074)
  limit_value = plain c cl ch

  limit_positive : T (positive (of_bits binary64 c))
  limit_positive = positive_of_value (of_bits binary64 c) (val c) (2 ^ 1074) limit_value (mul-pos (lt_of_lt_of_le (lit< tt) (le-add_right 4503599627370496 (c % 4503599627370496))) (pow_pos (c / 4503599627370496 - 1)))

  pub bits_from : T (le (of_bits binary64 c) x) → c ≤ to_bits binary64 x
  bits_from l = go (dec_le c (to_bits binary64 x)) (dec_le 4503599627370496 (to_bits binary64 x))
    where
      small_value : to_bits binary64 x < 4503599627370496 → HasValue x false (to_bits binary64 x) (2 ^ 1074)
      small_value h = subst (λ (z : Float). HasValue z false (to_bits binary64 x) (2 ^ 1074)) (ap (of_bits binary64) (zero-add (to_bits binary64 x)) ∙ of_bits-to_bits binary64 x f) (small_is false (to_bits binary64 x) h)

      go : Dec (c ≤ to_bits binary64 x) → Dec (4503599627370496 ≤ to_bits binary64 x) → c ≤ to_bits binary64 x
      go (yes h) k = h
      go (no h) (yes k) = absurd (not-le_of_lt (val_strict (to_bits binary64 x) c k (lt_of_not-le h)) (le_of_mul-le-mul_right {k = 2 ^ 1074} (values_of_le (of_bits binary64 c) x (val c) (2 ^ 1074) (val (to_bits binary64 x)) (2 ^ 1074) limit_positive p limit_value (normal_value x f k (positive_bits x f p)) l) (pow_pos 1074)))
      go (no h) (no k) = absurd (not-le_of_lt (lt_of_lt_of_le (lt_of_not-le k) (le_trans (le-add_right 4503599627370496 0) (val_mono 4503599627370496 c (lit≤ tt) cl))) (le_of_mul-le-mul_right {k = 2 ^ 1074} (values_of_le (of_bits binary64 c) x (val c) (2 ^ 1074) (to_bits binary64 x) (2 ^ 1074) limit_positive p limit_value (small_value (lt_of_not-le k)) l) (pow_pos 1074)))

  pub bits_to : T (le x (of_bits binary64 c)) → to_bits binary64 x ≤ c
  bits_to l = go (dec_le (to_bits binary64 x) c)
    where
      go : Dec (to_bits binary64 x ≤ c) → to_bits binary64 x ≤ c
      go (yes h) = h
      go (no h) = absurd (not-le_of_lt (val_strict c (to_bits binary64 x) cl (lt_of_not-le h)) (le_of_mul-le-mul_right {k = 2 ^ 1074} (values_of_le x (of_bits binary64 c) (val (to_bits binary64 x)) (2 ^ 1074) (val c) (2 ^ 1074) p limit_positive (normal_value x f (le_trans cl (le_of_lt (lt_of_not-le h))) (positive_bits x f p)) limit_value l) (pow_pos 1074)))
