-- The bit patterns of the floats that are not negative: what number each stands for. Assumes nothing.
use mathlib.Core.Path.{◌≡◌, sym, ap, ◌∙◌, subst}
use mathlib.Core.Logic.{◌⊎◌, inl, inr}
use mathlib.Core.Bool.{Bool, false, not, cond}
use Prim.Native.Nat.{ℕ, suc, ◌+◌, ◌-◌, ◌*◌, ◌/◌, ◌%◌, ◌^◌, ◌≤◌, ◌<◌}
use native.Mathlib.Nat.{lt_irrefl, lt_of_lt_of_le, not-le_of_lt, mod-eq_of_lt, mul_assoc, pow-succ', eq-or-lt_of_le}
use native.Mathlib.Omega.{arith}
use lib.Dec.{T, leb, ltb, eqb, leb→le, ltb→lt, eqb→eq, not_T}
use lib.Ieee.{Float, nan, inf, nan_bits, binary64, odd, of_fields, of_bits}
use lib.Ieee.Bits.{is_false, cond_no, nan_bits_above}
use lib.Ieee.Exact.{HasValue, odd_sign}

-- 9218868437227405312 is 2047 * 2 ^ 52, the pattern of the infinity
pub no_nan : (b : ℕ) → b % 9223372036854775808 ≤ 9218868437227405312 → T (not (nan_bits binary64 b))
no_nan b h = subst (λ (z : Bool). T (not z)) (sym (nan_bits_above binary64 b)) (not_T (ltb 9218868437227405312 (b % 9223372036854775808)) (λ t. lt_irrefl 9218868437227405312 (lt_of_lt_of_le (ltb→lt 9218868437227405312 (b % 9223372036854775808) t) h)))

-- a pattern's fields
fields : (b : ℕ) → b < 9218868437227405312 → of_bits binary64 b ≡ of_fields binary64 false (b / 4503599627370496) (b % 4503599627370496)
unfolding of_bits
fields b h =
    ap (λ (s : Bool). of_fields binary64 s (b % 9223372036854775808 / 4503599627370496) (b % 4503599627370496)) (is_false (leb 9223372036854775808 b) (not_T (leb 9223372036854775808 b) (λ t. not-le_of_lt (under b h) (leb→le 9223372036854775808 b t))))
    ∙ ap (λ (x : ℕ). of_fields binary64 false (x / 4503599627370496) (b % 4503599627370496)) (mod-eq_of_lt (under b h))
  where
    under : (b : ℕ) → b < 9218868437227405312 → b < 9223372036854775808
    under b h = omega arith

-- an exponent's field x + 1 with the leading digit, and the field 0 without it
normal : (t x : ℕ) → x < 2046 → of_fields binary64 false (suc x) t ≡ odd 53 false (4503599627370496 + t) x 1074
unfolding of_fields
normal t x h = cond_no (eqb (suc x) 2047) (cond (eqb t 0) (inf false) nan) (odd 53 false (4503599627370496 + t) x 1074) (not_T (eqb (suc x) 2047) (λ u. clash x h (eqb→eq (suc x) 2047 u)))
  where
    clash : (x : ℕ) → x < 2046 → suc x ≡ 2047 → ⊥
    clash x h e = omega arith

-- the number that a pattern stands for is m 2 ^ e units of 2 ^ -1074
pub value_normal : (b : ℕ) → 4503599627370496 ≤ b → b < 9218868437227405312 → HasValue (of_bits binary64 b) false ((4503599627370496 + b % 4503599627370496) * 2 ^ (b / 4503599627370496 - 1)) (2 ^ 1074)
value_normal b h k =
    subst (λ (z : Float). HasValue z false ((4503599627370496 + b % 4503599627370496) * 2 ^ (b / 4503599627370496 - 1)) (2 ^ 1074))
    (sym (fields b k ∙ ap (λ (x : ℕ). of_fields binary64 false x (b % 4503599627370496)) (sym (back b h)) ∙ normal (b % 4503599627370496) (b / 4503599627370496 - 1) (under b h k)))
    (odd_sign 53 false (4503599627370496 + b % 4503599627370496) (b / 4503599627370496 - 1) 1074)
  where
    back : (b : ℕ) → 4503599627370496 ≤ b → suc (b / 4503599627370496 - 1) ≡ b / 4503599627370496
    back b h = omega arith

    under : (b : ℕ) → 4503599627370496 ≤ b → b < 9218868437227405312 → b / 4503599627370496 - 1 < 2046
    under b h k = omega arith

pub value_small : (b : ℕ) → b < 4503599627370496 → HasValue (of_bits binary64 b) false (b * 2 ^ 0) (2 ^ 1074)
unfolding of_fields
value_small b h =
    subst (λ (z : Float). HasValue z false (b * 2 ^ 0) (2 ^ 1074))
    (sym (fields b (under b h) ∙ ap (λ (x : ℕ). of_fields binary64 false x (b % 4503599627370496)) (none b h) ∙ ap (λ (t : ℕ). odd 53 false t 0 1074) (mod-eq_of_lt h)))
    (odd_sign 53 false b 0 1074)
  where
    under : (b : ℕ) → b < 4503599627370496 → b < 9218868437227405312
    under b h = omega arith

    none : (b : ℕ) → b < 4503599627370496 → b / 4503599627370496 ≡ 0
    none b h = omega arith

-- a significand s from 2 ^ 52 up to 2 ^ 53, both included, added to an exponent's field of h
pub value_packed : (h s : ℕ) → h ≤ 2044 → 4503599627370496 ≤ s → s ≤ 9007199254740992 → HasValue (of_bits binary64 (h * 4503599627370496 + s)) false (s * 2 ^ h) (2 ^ 1074)
value_packed h s hl sl sh =
    subst (λ (z : ℕ). HasValue (of_bits binary64 (h * 4503599627370496 + s)) false z (2 ^ 1074)) (units (eq-or-lt_of_le sh)) (value_normal (h * 4503599627370496 + s) (low h s sl) (high h s hl sh))
  where
    low : (h s : ℕ) → 4503599627370496 ≤ s → 4503599627370496 ≤ h * 4503599627370496 + s
    low h s l = omega arith

    high : (h s : ℕ) → h ≤ 2044 → s ≤ 9007199254740992 → h * 4503599627370496 + s < 9218868437227405312
    high h s l k = omega arith

    digits : (h s : ℕ) → 4503599627370496 ≤ s → s < 9007199254740992 → 4503599627370496 + (h * 4503599627370496 + s) % 4503599627370496 ≡ s
    digits h s l k = omega arith

    field : (h s : ℕ) → 4503599627370496 ≤ s → s < 9007199254740992 → (h * 4503599627370496 + s) / 4503599627370496 - 1 ≡ h
    field h s l k = omega arith

    top_digits : (h : ℕ) → 4503599627370496 + (h * 4503599627370496 + 9007199254740992) % 4503599627370496 ≡ 4503599627370496
    top_digits h = omega arith

    top_field : (h : ℕ) → (h * 4503599627370496 + 9007199254740992) / 4503599627370496 - 1 ≡ suc h
    top_field h = omega arith

    units : (s ≡ 9007199254740992) ⊎ (s < 9007199254740992) → (4503599627370496 + (h * 4503599627370496 + s) % 4503599627370496) * 2 ^ ((h * 4503599627370496 + s) / 4503599627370496 - 1) ≡ s * 2 ^ h
    units (inl e) =
        subst (λ (z : ℕ). (4503599627370496 + (h * 4503599627370496 + z) % 4503599627370496) * 2 ^ ((h * 4503599627370496 + z) / 4503599627370496 - 1) ≡ z * 2 ^ h) (sym e)
        (ap (λ (z : ℕ). z * 2 ^ ((h * 4503599627370496 + 9007199254740992) / 4503599627370496 - 1)) (top_digits h)
        ∙ ap (λ (z : ℕ). 4503599627370496 * 2 ^ z) (top_field h)
        ∙ ap (λ (z : ℕ). 4503599627370496 * z) (pow-succ' 2 h)
        ∙ sym (mul_assoc 4503599627370496 2 (2 ^ h)))
    units (inr l) =
        ap (λ (z : ℕ). z * 2 ^ ((h * 4503599627370496 + s) / 4503599627370496 - 1)) (digits h s sl l) ∙ ap (λ (z : ℕ). s * 2 ^ z) (field h s sl l)
