-- The bit patterns of the normal values of binary64: what number each stands for, and that a larger pattern of a positive one stands for a larger number. Assumes nothing.
use mathlib.Core.Path.{◌≡◌, refl, sym, ap, ◌∙◌, subst}
use mathlib.Core.Logic.{inl, inr}
use Prim.Native.Nat.{ℕ, suc, ◌+◌, ◌-◌, ◌*◌, ◌/◌, ◌%◌, ◌^◌, ◌≤◌, ◌<◌}
use native.Mathlib.Nat.{le_trans, le_of_eq, not-le_of_lt, eq-or-lt_of_le, mod-eq_of_lt, zero-add, mul_assoc, mul-le-mul_right, mul-le-mul_left, pow-succ'}
use native.Mathlib.Omega.{arith}
use mathlib.Core.Bool.{Bool, true, false, cond, not}
use lib.Dec.{T, leb, eqb, leb→le, le→leb, eqb→eq, not_T}
use lib.Pow.{pow_pos, pow_mono}
use lib.Ieee.{Float, nan, inf, fin, is_nan, nan_bits, binary64, odd, of_fields, of_bits, le}
use lib.Ieee.Bits.{is_true, is_false, cond_no, nan_bits_is}
use lib.Ieee.Exact.{HasValue, odd_sign}
use lib.Ieee.Order.{le_of_values}

pub of_bits_is : (b : ℕ) → of_bits binary64 b ≡ of_fields binary64 (leb 9223372036854775808 b) (b % 9223372036854775808 / 4503599627370496) (b % 4503599627370496)
unfolding of_bits
of_bits_is b = refl

differ : (x : ℕ) → suc x < 2047 → suc x ≡ 2047 → ⊥
differ x h e = omega arith

under_ones : (s : Bool) (t x : ℕ) → suc x < 2047 → of_fields binary64 s (suc x) t ≡ odd 53 s (4503599627370496 + t) x 1074
unfolding of_fields
under_ones s t x h = cond_no (eqb (suc x) 2047) (cond (eqb t 0) (inf s) nan) (odd 53 s (4503599627370496 + t) x 1074) (not_T (eqb (suc x) 2047) (λ (u : T (eqb (suc x) 2047)). differ x h (eqb→eq (suc x) 2047 u)))

small : (b : ℕ) → b < 9218868437227405312 → b < 9223372036854775808
small b h = omega arith

field : (b : ℕ) → 4503599627370496 ≤ b → suc (b / 4503599627370496 - 1) ≡ b / 4503599627370496
field b h = omega arith

field_lt : (b : ℕ) → 4503599627370496 ≤ b → b < 9218868437227405312 → suc (b / 4503599627370496 - 1) < 2047
field_lt b h k = omega arith

-- the sign's bit
abbrev pub sign_bit : Bool → ℕ
sign_bit false = 0
sign_bit true = 9223372036854775808

pub fields : (s : Bool) (b : ℕ) → b < 9223372036854775808 → of_bits binary64 (sign_bit s + b) ≡ of_fields binary64 s (b / 4503599627370496) (b % 4503599627370496)
fields false b h =
    of_bits_is (0 + b)
    ∙ ap (λ (x : ℕ). of_fields binary64 (leb 9223372036854775808 x) (x % 9223372036854775808 / 4503599627370496) (x % 4503599627370496)) (zero-add b)
    ∙ ap (λ (s : Bool). of_fields binary64 s (b % 9223372036854775808 / 4503599627370496) (b % 4503599627370496)) (is_false (leb 9223372036854775808 b) (not_T (leb 9223372036854775808 b) (λ (u : T (leb 9223372036854775808 b)). not-le_of_lt h (leb→le 9223372036854775808 b u))))
    ∙ ap (λ (x : ℕ). of_fields binary64 false (x / 4503599627370496) (b % 4503599627370496)) (mod-eq_of_lt h)
fields true b h =
    of_bits_is (9223372036854775808 + b)
    ∙ ap (λ (s : Bool). of_fields binary64 s ((9223372036854775808 + b) % 9223372036854775808 / 4503599627370496) ((9223372036854775808 + b) % 4503599627370496)) (is_true (leb 9223372036854775808 (9223372036854775808 + b)) (le→leb 9223372036854775808 (9223372036854775808 + b) (from b)))
    ∙ ap (λ (x : ℕ). of_fields binary64 true (x / 4503599627370496) ((9223372036854775808 + b) % 4503599627370496)) (rest b h)
    ∙ ap (λ (x : ℕ). of_fields binary64 true (b / 4503599627370496) x) (low b)
  where
    from : (b : ℕ) → 9223372036854775808 ≤ 9223372036854775808 + b
    from b = omega arith

    rest : (b : ℕ) → b < 9223372036854775808 → (9223372036854775808 + b) % 9223372036854775808 ≡ b
    rest b h = omega arith

    low : (b : ℕ) → (9223372036854775808 + b) % 4503599627370496 ≡ b % 4503599627370496
    low b = omega arith

-- 9218868437227405312 is 2047 * 2 ^ 52, the pattern of the infinity
pub normal : (s : Bool) (b : ℕ) → 4503599627370496 ≤ b → b < 9218868437227405312 → of_bits binary64 (sign_bit s + b) ≡ odd 53 s (4503599627370496 + b % 4503599627370496) (b / 4503599627370496 - 1) 1074
normal s b h k =
    fields s b (small b k)
    ∙ ap (λ (x : ℕ). of_fields binary64 s x (b % 4503599627370496)) (sym (field b h))
    ∙ under_ones s (b % 4503599627370496) (b / 4503599627370496 - 1) (field_lt b h k)

-- the number in units of 2 ^ -1074
abbrev pub val : ℕ → ℕ
val b = (4503599627370496 + b % 4503599627370496) * 2 ^ (b / 4503599627370496 - 1)

pub bits_is : (s : Bool) (b : ℕ) → 4503599627370496 ≤ b → b < 9218868437227405312 → HasValue (of_bits binary64 (sign_bit s + b)) s (val b) (2 ^ 1074)
bits_is s b h k = subst (λ (x : Float). HasValue x s (val b) (2 ^ 1074)) (sym (normal s b h k)) (odd_sign 53 s (4503599627370496 + b % 4503599627370496) (b / 4503599627370496 - 1) 1074)

fields_le : (b c : ℕ) → b ≤ c → b / 4503599627370496 ≤ c / 4503599627370496
fields_le b c h = omega arith

digits_le : (b c : ℕ) → b ≤ c → b / 4503599627370496 ≡ c / 4503599627370496 → 4503599627370496 + b % 4503599627370496 ≤ 4503599627370496 + c % 4503599627370496
digits_le b c h e = omega arith

twice : (b : ℕ) → 4503599627370496 + b % 4503599627370496 ≤ 4503599627370496 * 2
twice b = omega arith

once : (c : ℕ) → 4503599627370496 ≤ 4503599627370496 + c % 4503599627370496
once c = omega arith

next : (x y : ℕ) → 1 ≤ x → x < y → suc (x - 1) ≤ y - 1
next x y h k = omega arith

first : (b : ℕ) → 4503599627370496 ≤ b → 1 ≤ b / 4503599627370496
first b h = omega arith

pub val_mono : (b c : ℕ) → 4503599627370496 ≤ b → b ≤ c → val b ≤ val c
val_mono b c h k =
    elim (eq-or-lt_of_le (fields_le b c k)) [
      | inl e ↦ subst (λ (x : ℕ). val b ≤ (4503599627370496 + c % 4503599627370496) * 2 ^ (x - 1)) e (mul-le-mul_right (2 ^ (b / 4503599627370496 - 1)) (digits_le b c k e))
      | inr l ↦
          le_trans (mul-le-mul_right (2 ^ (b / 4503599627370496 - 1)) (twice b))
          (le_trans (le_of_eq (mul_assoc 4503599627370496 2 (2 ^ (b / 4503599627370496 - 1)) ∙ ap (λ (x : ℕ). 4503599627370496 * x) (sym (pow-succ' 2 (b / 4503599627370496 - 1)))))
          (le_trans (mul-le-mul_left 4503599627370496 (pow_mono (next (b / 4503599627370496) (c / 4503599627370496) (first b h) l))) (mul-le-mul_right (2 ^ (c / 4503599627370496 - 1)) (once c))))
    ]

pub bits_mono : (b c : ℕ) → 4503599627370496 ≤ b → b ≤ c → c < 9218868437227405312 → T (le (of_bits binary64 b) (of_bits binary64 c))
bits_mono b c h k l =
    le_of_values (of_bits binary64 b) (of_bits binary64 c) (val b) (2 ^ 1074) (val c) (2 ^ 1074) (pow_pos 1074) (pow_pos 1074) (plain b h (lower b c k l)) (plain c (le_trans h k) l)
    (mul-le-mul_right (2 ^ 1074) (val_mono b c h k))
  where
    lower : (x y : ℕ) → x ≤ y → y < 9218868437227405312 → x < 9218868437227405312
    lower x y p q = omega arith

    plain : (b : ℕ) → 4503599627370496 ≤ b → b < 9218868437227405312 → HasValue (of_bits binary64 b) false (val b) (2 ^ 1074)
    plain b h k = subst (λ (x : ℕ). HasValue (of_bits binary64 x) false (val b) (2 ^ 1074)) (zero-add b) (bits_is false b h k)

-- ---- a significand m from 2 ^ 52 up to 2 ^ 53, both ends included, added to an exponent's field of f
two52 : (f m : ℕ) → 4503599627370496 ≤ m → m < 9007199254740992 → (f * 4503599627370496 + m) / 4503599627370496 - 1 ≡ f
two52 f m h k = omega arith

low52 : (f m : ℕ) → 4503599627370496 ≤ m → m < 9007199254740992 → 4503599627370496 + (f * 4503599627370496 + m) % 4503599627370496 ≡ m
low52 f m h k = omega arith

top53 : (f : ℕ) → (f * 4503599627370496 + 9007199254740992) / 4503599627370496 - 1 ≡ suc f
top53 f = omega arith

top0 : (f : ℕ) → 4503599627370496 + (f * 4503599627370496 + 9007199254740992) % 4503599627370496 ≡ 4503599627370496
top0 f = omega arith

pub val_pack : (f m : ℕ) → 4503599627370496 ≤ m → m ≤ 9007199254740992 → val (f * 4503599627370496 + m) ≡ m * 2 ^ f
val_pack f m h k =
    elim (eq-or-lt_of_le k) [
      | inl e ↦ subst (λ (z : ℕ). val (f * 4503599627370496 + z) ≡ z * 2 ^ f) (sym e) (ap (λ (z : ℕ). z * 2 ^ ((f * 4503599627370496 + 9007199254740992) / 4503599627370496 - 1)) (top0 f) ∙ ap (λ (z : ℕ). 4503599627370496 * 2 ^ z) (top53 f) ∙ ap (λ (z : ℕ). 4503599627370496 * z) (pow-succ' 2 f) ∙ sym (mul_assoc 4503599627370496 2 (2 ^ f)))
      | inr l ↦ ap (λ (z : ℕ). z * 2 ^ ((f * 4503599627370496 + m) / 4503599627370496 - 1)) (low52 f m h l) ∙ ap (λ (z : ℕ). m * 2 ^ z) (two52 f m h l)
    ]

pub pattern_lo : (f m : ℕ) → 4503599627370496 ≤ m → 4503599627370496 ≤ f * 4503599627370496 + m
pattern_lo f m h = omega arith

pub pattern_hi : (f m : ℕ) → f ≤ 2044 → m ≤ 9007199254740992 → f * 4503599627370496 + m < 9218868437227405312
pattern_hi f m h k = omega arith

has_no_nan : (z : Float) (s : Bool) (a c : ℕ) → HasValue z s a c → T (not (is_nan z))
unfolding is_nan
has_no_nan nan s a c h = absurd h
has_no_nan (inf t) s a c h = tt
has_no_nan (fin t m e) s a c h = tt

pub pack_value : (s : Bool) (f m : ℕ) → f ≤ 2044 → 4503599627370496 ≤ m → m ≤ 9007199254740992 → HasValue (of_bits binary64 (sign_bit s + (f * 4503599627370496 + m))) s (m * 2 ^ f) (2 ^ 1074)
pack_value s f m h k l = subst (λ (x : ℕ). HasValue (of_bits binary64 (sign_bit s + (f * 4503599627370496 + m))) s x (2 ^ 1074)) (val_pack f m k l) (bits_is s (f * 4503599627370496 + m) (pattern_lo f m k) (pattern_hi f m h l))

pub pack_no_nan : (s : Bool) (f m : ℕ) → f ≤ 2044 → 4503599627370496 ≤ m → m ≤ 9007199254740992 → T (not (nan_bits binary64 (sign_bit s + (f * 4503599627370496 + m))))
pack_no_nan s f m h k l = subst (λ (b : Bool). T (not b)) (sym (nan_bits_is binary64 (sign_bit s + (f * 4503599627370496 + m)))) (has_no_nan (of_bits binary64 (sign_bit s + (f * 4503599627370496 + m))) s (m * 2 ^ f) (2 ^ 1074) (pack_value s f m h k l))

-- ---- the nearest multiple of 2 ^ 11
pub near_lo : (y : ℕ) → 9223372036854775808 ≤ y → 4503599627370496 ≤ (y / 1024 + 1) / 2
near_lo y h = omega arith

pub near_hi : (y : ℕ) → y < 18446744073709551616 → (y / 1024 + 1) / 2 ≤ 9007199254740992
near_hi y h = omega arith

pub near_up : (y : ℕ) → (y / 1024 + 1) / 2 * 2048 ≤ y + 1024
near_up y = omega arith

pub near_down : (y : ℕ) → y ≤ (y / 1024 + 1) / 2 * 2048 + 1023
near_down y = omega arith
