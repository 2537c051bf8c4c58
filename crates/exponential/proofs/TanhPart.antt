-- tanh: its quotient's numbers stay in range, and what the code's branches know. Assumes nothing.
use mathlib.Core.Path.{◌≡◌, refl, sym, ap, ◌∙◌, subst}
use mathlib.Core.Bool.{Bool, true, false, ◌&&◌, not}
use Prim.Native.Nat.{ℕ, zero, suc, ◌+◌, ◌-◌, ◌*◌, ◌/◌, ◌%◌, ◌^◌, ◌≤◌, ◌<◌}
use native.Mathlib.Nat.{le_trans, le_of_eq, one-mul, mul-one, mul_left_comm, mul-le-mul_left, mul-le-mul_right, div-le_of_le-mul}
use native.Mathlib.Decide.{dec_le}
use native.Mathlib.Omega.{arith}
use lib.IntN.{ℤ, pos}
use lib.Dec.{T, le→leb, lit≤, lit<}
use borrow.Author.Tests.{lt-ltb, le-ltb}
use lib.Pow.{pow_pos, pow-add}
use lib.Ieee.{Float, fin, up, down, binary64, fits, is_nan, to_bits, of_bits, of_fields, odd, of_int, in_float, add, sub, div, le, neg}
use Rattle.number.specs.Ans.{held, refused}
use Rattle.number.specs.Domain.{tanh_inside}
use Rattle.exponential.specs.Raise.{significand_of}
use Rattle.exponential.specs.Exp.{binary_of, exponent_at}
use Rattle.fixed_point.specs.Fields.{exponent_field}
use Rattle.exponential.specs.Tanh.{tanh_ratio_of, tanh_of}
use Rattle.exponential.proofs.Digits.{significand_hi}
use Rattle.exponential.proofs.Decode.{units_of, decoded, inside_is, field_lt, size_le_of}
use Rattle.exponential.proofs.Argument.{digits_lt, units_le}

-- ---- the quotient's numbers
pub small_part : (y n : ℕ) → y < 2 ^ 64 → y / 2 ^ n / 4096 ≤ 2 ^ 52
small_part y n h = go y (y / 2 ^ n) h (div-le_of_le-mul (2 ^ n) (le_trans (le_of_eq (sym (one-mul y))) (mul-le-mul_right y (pow_pos n))))
  where
    go : (y x : ℕ) → y < 2 ^ 64 → x ≤ y → x / 4096 ≤ 2 ^ 52
    go y x h k = omega arith

part_fits : (n : ℕ) → n ≤ 2 ^ 52 → T (in_float binary64 (pos n))
unfolding in_float
part_fits n h = le→leb n (2 ^ 53) (le_trans h (lit≤ tt))

module _ (w y a b e o : ℕ) (y-is : y ≡ significand_of w) (a-is : a ≡ 1023 - w / 2 ^ 53) (e-is : e ≡ y / 2 ^ a) (b-is : b ≡ w / 2 ^ 53 - 1023) (o_is : o ≡ 2 ^ 63 / 2 ^ b) where
  pub exp_fits : T (in_float binary64 (pos (e / 4096)))
  exp_fits = part_fits (e / 4096) (subst (λ (x : ℕ). x / 4096 ≤ 2 ^ 52) (sym e-is) (small_part y a (subst (λ (x : ℕ). x < 2 ^ 64) (sym y-is) (significand_hi w))))

  pub one_fits : T (in_float binary64 (pos (o / 4096)))
  one_fits = part_fits (o / 4096) (subst (λ (x : ℕ). x / 4096 ≤ 2 ^ 52) (sym o_is) (small_part (2 ^ 63) b (lit< tt)))

  pub tanh_ratio_is : div binary64 (sub binary64 (of_int binary64 (pos (e / 4096))) (of_int binary64 (pos (o / 4096)))) (add binary64 (of_int binary64 (pos (e / 4096))) (of_int binary64 (pos (o / 4096)))) ≡ tanh_ratio_of w
  unfolding tanh_ratio_of
  tanh_ratio_is = rw (o_is, b-is, e-is, a-is, y-is)

-- ---- x from -350 to 350
three_fifty : of_bits binary64 0x4075_e000_0000_0000 ≡ fin false 175 (pos 1)
unfolding of_bits of_fields odd
three_fifty = refl

pub tanh_inside_is : (x : Float) → T (tanh_inside x) → (s : Bool) × (m : ℕ) × (e : ℤ) × (x ≡ fin s m e) × (m * up e ≤ 350 * down e)
unfolding tanh_inside
tanh_inside_is x h = go (inside_is x 175 (pos 1) (subst (λ (y : Float). T (le (neg y) x && le x y)) three_fifty h))
  where
    go : (s : Bool) × (m : ℕ) × (e : ℤ) × (x ≡ fin s m e) × (m * up e * 1 ≤ 350 * down e) → (s : Bool) × (m : ℕ) × (e : ℤ) × (x ≡ fin s m e) × (m * up e ≤ 350 * down e)
    go (s, m, e, p, q) = (s, m, e, p, subst (λ (y : ℕ). y ≤ 350 * down e) (mul-one (m * up e)) q)

pub tanh_no_nan : (x : Float) → T (tanh_inside x) → T (not (is_nan x))
unfolding is_nan
tanh_no_nan x h = go (tanh_inside_is x h)
  where
    go : (s : Bool) × (m : ℕ) × (e : ℤ) × (x ≡ fin s m e) × (m * up e ≤ 350 * down e) → T (not (is_nan x))
    go (s, m, e, p, q) = subst (λ (y : Float). T (not (is_nan y))) (sym p) tt

pub tanh_bits_le : (x : Float) → T (fits binary64 x) → T (tanh_inside x) → units_of (exponent_field (to_bits binary64 x)) (to_bits binary64 x % 4503599627370496) ≤ 350 * 2 ^ 1074
tanh_bits_le x f h = go (tanh_inside_is x h)
  where
    go : (s : Bool) × (m : ℕ) × (e : ℤ) × (x ≡ fin s m e) × (m * up e ≤ 350 * down e) → units_of (exponent_field (to_bits binary64 x)) (to_bits binary64 x % 4503599627370496) ≤ 350 * 2 ^ 1074
    go (s, m, e, p, k) = units_le 350 m e (units_of (exponent_field (to_bits binary64 x)) (to_bits binary64 x % 4503599627370496)) (decoded s m e (subst (λ (y : Float). T (fits binary64 y)) p f) (to_bits binary64 x) (subst (λ (y : Float). to_bits binary64 x ≡ to_bits binary64 y) p refl)).0.1 k

-- one more in the exponent's field is twice the size
units_twice : (f t : ℕ) → 1 ≤ f → units_of (f + 1) t ≡ 2 * units_of f t
units_twice zero t h = absurd (none h)
  where
    none : 1 ≤ 0 → ⊥
    none h = omega arith
units_twice (suc k) t h = ap (λ (f : ℕ). units_of f t) (step k) ∙ ap (λ (p : ℕ). (4503599627370496 + t) * p) (pow-add 2 1 k) ∙ mul_left_comm (4503599627370496 + t) 2 (2 ^ k)
  where
    step : (k : ℕ) → suc k + 1 ≡ suc (1 + k)
    step k = omega arith

module _ (b : ℕ) (units : units_of (exponent_field b) (b % 4503599627370496) ≤ 350 * 2 ^ 1074) where
  pub twice_low : exponent_field b ≤ 1031
  twice_low = go (exponent_field b) (b % 4503599627370496) (field_lt 350 (exponent_field b) (b % 4503599627370496) (lit< tt) (digits_lt b) units) (size_le_of 350 (exponent_field b) (b % 4503599627370496) (lit< tt) (digits_lt b) units) (dec_le 1032 (exponent_field b))
    where
      same : (f : ℕ) → f < 1033 → 1032 ≤ f → f ≡ 1032
      same f h k = omega arith

      never : (t : ℕ) → (t + 4503599627370496) * 2048 / 1 ≤ 350 * 2 ^ 54 → ⊥
      never t h = omega arith

      less : (f : ℕ) → (1032 ≤ f → ⊥) → f ≤ 1031
      less f h = omega arith

      go : (f t : ℕ) → f < 1033 → (t + 4503599627370496) * 2048 / 2 ^ (1032 - f) ≤ 350 * 2 ^ 54 → Dec (1032 ≤ f) → f ≤ 1031
      go f t h k (yes l) = absurd (never t (subst (λ (f : ℕ). (t + 4503599627370496) * 2048 / 2 ^ (1032 - f) ≤ 350 * 2 ^ 54) (same f h l) k))
      go f t h k (no l) = less f l

  pub twice_fits : b < 2 ^ 64 → b + 2 ^ 52 < 2 ^ 64
  twice_fits h = go b h twice_low
    where
      go : (b : ℕ) → b < 2 ^ 64 → b / 2 ^ 52 % 2048 ≤ 1031 → b + 2 ^ 52 < 2 ^ 64
      go b h k = omega arith

  twice_field : exponent_field (b + 2 ^ 52) ≡ exponent_field b + 1
  twice_field = go b twice_low
    where
      go : (b : ℕ) → b / 2 ^ 52 % 2048 ≤ 1031 → (b + 2 ^ 52) / 2 ^ 52 % 2048 ≡ b / 2 ^ 52 % 2048 + 1
      go b h = omega arith

  module _ (l : 1006 ≤ exponent_field b) where
    pub twice_field_le : exponent_field (b + 2 ^ 52) ≤ 1032
    twice_field_le = subst (λ (f : ℕ). f ≤ 1032) (sym (twice_field)) (lin (exponent_field b) twice_low)
      where
        lin : (f : ℕ) → f ≤ 1031 → f + 1 ≤ 1032
        lin f h = omega arith

    -- the size of 2x
    pub twice_size : units_of (exponent_field (b + 2 ^ 52)) ((b + 2 ^ 52) % 4503599627370496) ≡ 2 * units_of (exponent_field b) (b % 4503599627370496)
    twice_size = ap (λ (f : ℕ). units_of f ((b + 2 ^ 52) % 4503599627370496)) (twice_field) ∙ ap (λ (t : ℕ). units_of (exponent_field b + 1) t) (same b) ∙ units_twice (exponent_field b) (b % 4503599627370496) (le_trans (lit≤ tt) l)
      where
        same : (b : ℕ) → (b + 2 ^ 52) % 4503599627370496 ≡ b % 4503599627370496
        same b = omega arith

    pub twice_units : units_of (exponent_field (b + 2 ^ 52)) ((b + 2 ^ 52) % 4503599627370496) ≤ 700 * 2 ^ 1074
    twice_units = le_trans (le_of_eq twice_size) (le_trans (mul-le-mul_left 2 units) (lit≤ tt))

    pub twice_binary_le : binary_of (b + 2 ^ 52) ≤ 1010 * 2 ^ 53
    twice_binary_le = div-le_of_le-mul (2 ^ 64) (le_trans (mul-le-mul_right 13306513097844322491 (size_le_of 700 (exponent_field (b + 2 ^ 52)) ((b + 2 ^ 52) % 4503599627370496) (lit< tt) (digits_lt (b + 2 ^ 52)) twice_units)) (lit≤ tt))

-- ---- the answer
module _ (x : Float) where
  pub tanh_below : le (neg (of_bits binary64 0x4075_e000_0000_0000)) x ≡ false → false ≡ tanh_inside x
  unfolding tanh_inside
  tanh_below h = rw h

  pub tanh_above : le (neg (of_bits binary64 0x4075_e000_0000_0000)) x ≡ true → le x (of_bits binary64 0x4075_e000_0000_0000) ≡ tanh_inside x
  unfolding tanh_inside
  tanh_above h = rw h

  module _ (t : Bool) (is : t ≡ tanh_inside x) where
    pub tanh_accepted : t ≡ true → T (tanh_inside x)
    tanh_accepted h = subst T (sym h ∙ is) tt

    pub tanh_outside : t ≡ false → refused 6 ≡ tanh_of x
    unfolding tanh_of
    tanh_outside h = rw (← is, h)

    pub tanh_tiny : t ≡ true → exponent_field (to_bits binary64 x) < 1006 → held x ≡ tanh_of x
    unfolding tanh_of
    tanh_tiny h k = rw (← is, h, lt-ltb (exponent_field (to_bits binary64 x)) 1006 k)

    pub tanh_away : (w : ℕ) (v : Float) → t ≡ true → 1006 ≤ exponent_field (to_bits binary64 x) → w ≡ exponent_at (to_bits binary64 x + 2 ^ 52) → v ≡ tanh_ratio_of w → held v ≡ tanh_of x
    unfolding tanh_of
    tanh_away w v h k i e = rw (← is, h, le-ltb (exponent_field (to_bits binary64 x)) 1006 k, e, i)
