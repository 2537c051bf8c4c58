-- A power of a base from 1 on is a finite float from 1 on, its exponent being from 0 on and other than 1; an exponent above 1 is both; and the logarithm of a base from 1 on is not below 0. Assumes nothing.
use mathlib.Core.Path.{◌≡◌, refl, sym, subst}
use mathlib.Core.Bool.{Bool, true, false}
use Prim.Native.Nat.{ℕ, ◌+◌, ◌-◌, ◌*◌, ◌/◌, ◌^◌, ◌≤◌, ◌<◌}
use native.Mathlib.Nat.{le_trans, le_refl, le_of_lt, mul-le-mul, zero-add}
use native.Mathlib.Omega.{arith}
use lib.IntN.{ℤ, pos}
use lib.Dec.{T, ltb, leb, eqb, lit≤, lit<}
use lib.Pow.{pow_mono, pow_pos}
use lib.Ieee.{Float, nan, inf, fin, binary64, fits, le, lt, neg, to_bits, of_bits}
use lib.Ieee.Bits.{of_bits-fits, is_true}
use lib.Ieee.Fits.{and_l, and_r}
use lib.Ieee.Positive.{positive, between}
use lib.Ieee.Exact.{HasValue}
use lib.Ieee.Scale.{finite}
use borrow.Author.Tests.{ltb-true, le-leb, lt-leb, ne_eqb}
use Rattle.number.specs.Frac.{lt_f, sgn, val_f}
use Rattle.number.specs.Arith.{one64}
use Rattle.number.proofs.Frac.{le_trans_f}
use Rattle.number.proofs.Round.{has_finite, has_ge}
use Rattle.number.proofs.Order.{lt_yes}
use Rattle.number.proofs.Rank.{mag, mag_inf, bits64, rank_lt}
use Rattle.number.specs.Domain.{base_inside, exponent_inside}
use Rattle.fixed_point.proofs.Decode.{bits_from}
use Rattle.fixed_point.proofs.Patterns64.{pack_value, near_lo, near_hi}
use Rattle.exponential.specs.Raise.{significand_of, raise_of}
use Rattle.exponential.proofs.Digits.{significand_lo, significand_hi}
use Rattle.binary_log.specs.declared.Log.{Log}
use Rattle.binary_log.specs.BinaryLog.{log_of}
use Rattle.power.specs.declared.FixedExponent.{FixedExponent}
use Rattle.power.specs.Power.{exponent_of, product_of, word_of, power_of}
use Rattle.saftvrqmie_alone_ends.proofs.Tame.{FromOne, top, top_fits}

raise_value : (w : ℕ) → w < 2046 * 2 ^ 53 → HasValue (raise_of w) false ((significand_of w / 1024 + 1) / 2 * 2 ^ (w / 2 ^ 53 - 1)) (2 ^ 1074)
unfolding raise_of
raise_value w h = rw zero-add at (pack_value false (w / 2 ^ 53 - 1) ((significand_of w / 1024 + 1) / 2) (field_le w h) (near_lo (significand_of w) (significand_lo w)) (near_hi (significand_of w) (significand_hi w)))
  where
    field_le : (w : ℕ) → w < 2046 * 2 ^ 53 → w / 2 ^ 53 - 1 ≤ 2044
    field_le w h = omega arith

raise_fits : (w : ℕ) → T (fits binary64 (raise_of w))
unfolding raise_of
raise_fits w = of_bits-fits binary64 ((w / 2 ^ 53 - 1) * 2 ^ 52 + (significand_of w / 1024 + 1) / 2)

raised : (w : ℕ) → 1023 * 2 ^ 53 ≤ w → w < 2046 * 2 ^ 53 → FromOne (raise_of w)
raised w h k =
    let m = (significand_of w / 1024 + 1) / 2 in
    let v = raise_value w k in
    let n : 2 ^ 1074 ≤ m * 2 ^ (w / 2 ^ 53 - 1) = le_trans (lit≤ tt) (mul-le-mul (near_lo (significand_of w) (significand_lo w)) (pow_mono (field w h))) in
    record {
      is_finite = has_finite (raise_of w) false (m * 2 ^ (w / 2 ^ 53 - 1)) (2 ^ 1074) v;
      is_fitting = raise_fits w;
      from = le_trans_f (val_f (top 0)) (sgn false (m * 2 ^ (w / 2 ^ 53 - 1)) (2 ^ 1074)) (val_f (raise_of w)) (pow_pos 1074) (at_least (m * 2 ^ (w / 2 ^ 53 - 1)) (2 ^ 1074) n) (has_ge (raise_of w) false (m * 2 ^ (w / 2 ^ 53 - 1)) (2 ^ 1074) v);
    }
  where
    field : (w : ℕ) → 1023 * 2 ^ 53 ≤ w → 1022 ≤ w / 2 ^ 53 - 1
    field w h = omega arith

    at_least : (a c : ℕ) → c ≤ a → 1 * 1 * c + 0 * 1 ≤ a * 1 + 0 * c
    at_least a c h = omega arith

product_le : (l y : ℕ) → product_of l y ≤ 1022 * 2 ^ 53
product_le l y = go (ltb (y * l / 2 ^ 64) (1022 * 2 ^ 53)) refl
  where
    go : (b : Bool) → ltb (y * l / 2 ^ 64) (1022 * 2 ^ 53) ≡ b → product_of l y ≤ 1022 * 2 ^ 53
    go true e = rw e (le_of_lt (ltb-true (y * l / 2 ^ 64) (1022 * 2 ^ 53) e))
    go false e = rw e (le_refl (1022 * 2 ^ 53))

pub power_from_one : (l : Log) (y : FixedExponent) → l.negative ≡ false → y.negative ≡ false → y.one ≡ false → FromOne (power_of l y)
unfolding power_of word_of
power_from_one l y n o p = rw (p, n, o) (raised (1023 * 2 ^ 53 + product_of l.size y.size) (low (product_of l.size y.size)) (high (product_of l.size y.size) (product_le l.size y.size)))
  where
    low : (v : ℕ) → 1023 * 2 ^ 53 ≤ 1023 * 2 ^ 53 + v
    low v = omega arith

    high : (v : ℕ) → v ≤ 1022 * 2 ^ 53 → 1023 * 2 ^ 53 + v < 2046 * 2 ^ 53
    high v h = omega arith

-- ---- an exponent above 1 is neither negative nor 1
one_mag : mag 1 (pos 0) ≡ 0x3ff0_0000_0000_0000
unfolding mag lib.Ieee.size
one_mag = refl

bits_above : (s : Bool) (m : ℕ) (e : ℤ) → T (fits binary64 (fin s m e)) → lt_f (val_f (fin false 1 (pos 0))) (val_f (fin s m e)) → (0x3ff0_0000_0000_0000 < to_bits binary64 (fin s m e)) × (to_bits binary64 (fin s m e) < 0x7ff0_0000_0000_0000)
bits_above false m e f h =
    let k : 0x8000_0000_0000_0000 + 0x3ff0_0000_0000_0000 < 0x8000_0000_0000_0000 + mag m e = subst (λ (z : ℕ). 0x8000_0000_0000_0000 + z < 0x8000_0000_0000_0000 + mag m e) one_mag (rank_lt (fin false 1 (pos 0)) (fin false m e) (top_fits 0 (lit< tt)) tt f tt h) in
    let l = mag_inf false m e f in
    subst (λ (z : ℕ). (0x3ff0_0000_0000_0000 < z) × (z < 0x7ff0_0000_0000_0000)) (sym (bits64 false m e)) (omega arith, omega arith)
bits_above true m e f h =
    let k : 0x8000_0000_0000_0000 + 0x3ff0_0000_0000_0000 < 0x8000_0000_0000_0000 - mag m e = subst (λ (z : ℕ). 0x8000_0000_0000_0000 + z < 0x8000_0000_0000_0000 - mag m e) one_mag (rank_lt (fin false 1 (pos 0)) (fin true m e) (top_fits 0 (lit< tt)) tt f tt h) in
    absurd (omega arith)

lt_one : (y : Float) → T (finite y) → T (lt one64 y) → lt_f (val_f (fin false 1 (pos 0))) (val_f y)
unfolding of_bits
lt_one y t h = lt_yes one64 y tt t h

exponent_at : (y : Float) → exponent_inside y ≡ true → leb (2 ^ 63) (to_bits binary64 y) ≡ false → eqb (to_bits binary64 y) 0x3ff0_0000_0000_0000 ≡ false → ((exponent_of y).negative ≡ false) × ((exponent_of y).one ≡ false)
unfolding exponent_of
exponent_at y t h k = (rw t h, rw t k)

inside_finite : (y : Float) → T (exponent_inside y) → T (finite y)
unfolding exponent_inside le neg of_bits
inside_finite nan t = absurd t
inside_finite (inf true) t = absurd t
inside_finite (inf false) t = absurd t
inside_finite (fin s m e) t = tt

pub above_one : (y : Float) → T (exponent_inside y) → T (fits binary64 y) → T (lt one64 y) → ((exponent_of y).negative ≡ false) × ((exponent_of y).one ≡ false)
above_one nan t f h = absurd (inside_finite nan t)
above_one (inf s) t f h = absurd (inside_finite (inf s) t)
above_one (fin s m e) t f h = by_bits (bits_above s m e f (over_one h))
  where
    b : ℕ
    b = to_bits binary64 (fin s m e)

    small : (b : ℕ) → b < 0x7ff0_0000_0000_0000 → b < 2 ^ 63
    small b h = omega arith

    larger : (b : ℕ) → 0x3ff0_0000_0000_0000 < b → b ≡ 0x3ff0_0000_0000_0000 → ⊥
    larger b h e = omega arith

    by_bits : ((0x3ff0_0000_0000_0000 < b) × (b < 0x7ff0_0000_0000_0000)) → ((exponent_of (fin s m e)).negative ≡ false) × ((exponent_of (fin s m e)).one ≡ false)
    by_bits k = exponent_at (fin s m e) (is_true (exponent_inside (fin s m e)) t) (lt-leb (2 ^ 63) b (small b k.1)) (ne_eqb b 0x3ff0_0000_0000_0000 (larger b k.0))

    over_one : T (lt one64 (fin s m e)) → lt_f (val_f (fin false 1 (pos 0))) (val_f (fin s m e))
    over_one h = lt_one (fin s m e) tt h

-- ---- a base from 1 on
base_positive : (x : Float) → T (base_inside x) → T (positive x)
unfolding base_inside of_bits
base_positive x h =
    let least = of_bits binary64 0x3fa0_0000_0000_0000 in
    let greatest = of_bits binary64 0x4040_0000_0000_0000 in
    between least x greatest tt tt (and_l (le least x) (le x greatest) h) (and_r (le least x) (le x greatest) h)

pub upward : (x : Float) → base_inside x ≡ true → T (fits binary64 x) → T (le one64 x) → (log_of x).negative ≡ false
unfolding log_of
upward x t f h = rw (t, le-leb 1023 (to_bits binary64 x / 2 ^ 52) (field (bits_from x f (base_positive x (subst T (sym t) tt)) 0x3ff0_0000_0000_0000 (lit≤ tt) (lit< tt) h)))
  where
    field : {b : ℕ} → 0x3ff0_0000_0000_0000 ≤ b → 1023 ≤ b / 2 ^ 52
    field h = omega arith
