-- The significand that the core works lies from 2 ^ 63 to 2 ^ 64, and what it is made of. Assumes nothing.
use mathlib.Core.Path.{◌≡◌, sym, subst}
use mathlib.Core.Bool.{Bool, false, ◌&&◌, not}
use Prim.Native.Nat.{ℕ, ◌+◌, ◌-◌, ◌*◌, ◌/◌, ◌%◌, ◌^◌, ◌≤◌, ◌<◌}
use native.Mathlib.Nat.{le_trans, mul-le-mul, div-le_of_le-mul, zero-add}
use native.Mathlib.Omega.{arith}
use lib.Dec.{T, leb, leb→le, lit≤}
use lib.ListN.{get_or}
use lib.Ieee.{binary64, nan_bits}
use lib.Ieee.Fits.{and_l, and_r}
use Rattle.fixed_point.specs.Horner.{horner}
use Rattle.number.proofs.Table.{every, at}
use Rattle.fixed_point.proofs.Patterns64.{near_lo, near_hi, pack_no_nan}
use Rattle.fixed_point.proofs.Run.{under_total}
use Rattle.exponential.specs.Powers.{powers, terms}
use Rattle.exponential.specs.Raise.{significand_of}

-- ---- the table's entries
abbrev bounded : ℕ → ℕ → Bool
bounded j e = leb (2 ^ 63) e && leb e 18347121020861646923

all_bounded : T (every bounded 0 powers)
all_bounded = tt

pub entry_lo : (j : ℕ) → j < 128 → 2 ^ 63 ≤ get_or powers j 0
entry_lo j h =
    let e = get_or powers j 0 in
    leb→le (2 ^ 63) e (and_l (leb (2 ^ 63) e) (leb e 18347121020861646923) (at bounded powers all_bounded j h))

pub entry_hi : (j : ℕ) → j < 128 → get_or powers j 0 ≤ 18347121020861646923
entry_hi j h =
    let e = get_or powers j 0 in
    leb→le e 18347121020861646923 (and_r (leb (2 ^ 63) e) (leb e 18347121020861646923) (at bounded powers all_bounded j h))

-- the sum does not wrap
pub room : (e g : ℕ) → e ≤ 18347121020861646923 → g ≤ 12820991510198240000 → e + e * g / 2 ^ 64 / 128 < 2 ^ 64
room e g h k = lin e (e * g / 2 ^ 64) h (div-le_of_le-mul (2 ^ 64) (le_trans (mul-le-mul h k) (lit≤ tt)))
  where
    lin : (e x : ℕ) → e ≤ 18347121020861646923 → x ≤ 12751750764531724959 → e + x / 128 < 2 ^ 64
    lin e x h k = omega arith

-- ---- as the program has it
pub room_of : {p g r : ℕ} (j : ℕ) → j < 128 → p ≡ get_or powers j 0 → r ≡ p * g / 2 ^ 64 → g ≤ 12820991510198240000 → p + r / 128 < 2 ^ 64
room_of {p} {g} {r} j h e f k = subst (λ (x : ℕ). p + x / 128 < 2 ^ 64) (sym f) (room p g (subst (λ (x : ℕ). x ≤ 18347121020861646923) (sym e) (entry_hi j h)) k)

pub place : (w : ℕ) → w / 2 ^ 46 % 128 < 128
place w = omega arith

-- ---- Horner's rule stays below the sum of the coefficients
pub series_le : (q : ℕ) → q ≤ 2 ^ 64 → horner terms q ≤ 12820991510198240000
series_le q h = le_trans (under_total terms q h) (lit≤ tt)

pub scaled_le : (d h : ℕ) → d ≤ 2 ^ 64 → h ≤ 12820991510198240000 → d * h / 2 ^ 64 ≤ 12820991510198240000
scaled_le d h D H = div-le_of_le-mul (2 ^ 64) (mul-le-mul D H)

pub low_le : (w : ℕ) → w % 2 ^ 46 * 2 ^ 18 ≤ 2 ^ 64
low_le w = omega arith

pub significand_lo : (w : ℕ) → 2 ^ 63 ≤ significand_of w
unfolding significand_of
significand_lo w = lin (get_or powers (w / 2 ^ 46 % 128) 0) _ (entry_lo (w / 2 ^ 46 % 128) (place w))
  where
    lin : (e x : ℕ) → 2 ^ 63 ≤ e → 2 ^ 63 ≤ e + x
    lin e x h = omega arith

pub significand_hi : (w : ℕ) → significand_of w < 2 ^ 64
unfolding significand_of
significand_hi w =
    let d = w % 2 ^ 46 * 2 ^ 18 in
    room (get_or powers (w / 2 ^ 46 % 128) 0) (d * horner terms d / 2 ^ 64) (entry_hi (w / 2 ^ 46 % 128) (place w)) (scaled_le d (horner terms d) (low_le w) (series_le d (low_le w)))

-- ---- the pattern is a normal number's
field_le : (w : ℕ) → w < 2046 * 2 ^ 53 → w / 2 ^ 53 - 1 ≤ 2044
field_le w h = omega arith

pub raise_no_nan : (w x : ℕ) → x ≡ significand_of w → w < 2046 * 2 ^ 53 → T (not (nan_bits binary64 ((w / 2 ^ 53 - 1) * 2 ^ 52 + (x / 1024 + 1) / 2)))
raise_no_nan w x e h = subst (λ (y : ℕ). T (not (nan_bits binary64 ((w / 2 ^ 53 - 1) * 2 ^ 52 + (y / 1024 + 1) / 2)))) (sym e) (rw zero-add at (pack_no_nan false (w / 2 ^ 53 - 1) ((significand_of w / 1024 + 1) / 2) (field_le w h) (near_lo (significand_of w) (significand_lo w)) (near_hi (significand_of w) (significand_hi w))))
