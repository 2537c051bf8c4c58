-- The square root of document 01: correctly rounded, -0 gives -0, below zero or not finite is outside, which is 6.
use Rattle.std.specs.Prelude.{true, false, cond, ℕ, zero, suc, ◌+◌, ◌*◌, ◌/◌, ◌^◌, T, leb, Float}
use Rattle.std.specs.Float.{nan, inf, fin, binary64}
use Rattle.std.specs.Float.Ieee.{fits, of_bits, size, up, down}
use Rattle.std.specs.Float.Ieee.Scale.{finite}
use Rattle.number.specs.Ans.{Ans, held, refused}
use Rattle.number.specs.Frac.{Frac, frac, le_f, lt_f, zero_f, add_f, mul_f, val_f}

-- the whole root of an n below 4 ^ k, digit by digit: the largest number whose square is at most n
unfoldable pub whole_root : ℕ → ℕ → ℕ
whole_root zero n = 0
whole_root (suc k) n = let r = 2 * whole_root k (n / 4) in cond (leb ((r + 1) * (r + 1)) n) (r + 1) r

-- The root of n units of 2 ^ -1074, for a positive float's n. Moved by an even number of places, n has 107 or 108 digits and its whole root 54;
-- half of that, rounded up, is the significand of 53 digits. The significand's leading digit adds one to the exponent's field f.
unfoldable pub positive_root : ℕ → Float
positive_root n =
    let f = (size n + 969) / 2 in
    of_bits binary64 (f * 2 ^ 52 + (whole_root 54 (n * 2 ^ 1076 / 2 ^ (2 * f)) + 1) / 2)

-- `sqrt`: 6 outside
unfoldable pub root : Float → Ans Float
root nan = refused 6
root (inf s) = refused 6
root (fin s zero e) = held (fin s zero e)
root (fin true (suc m) e) = refused 6
root (fin false (suc m) e) = held (positive_root (suc m * up e * 2 ^ 1074 / down e))

-- ---- what IEEE 754 asks of a square root that is correctly rounded: no float is as near to the exact root

abbrev pub midpoint : Float → Float → Frac
midpoint x y = mul_f (frac 1 0 2) (add_f (val_f x) (val_f y))

abbrev pub square_f : Frac → Frac
square_f q = mul_f q q

-- r is nearer to the root of x than any other float y that is not negative: the root lies on r's side of the midpoint of r and y, which is told by squares.
-- Since the root is never at a midpoint, no tie occurs. Two such r are equal as fractions.
pub record Nearest (r x : Float) : Type 0 where
  pub is_float : T (fits binary64 r)
  pub is_finite : T (finite r)
  pub not_negative : le_f zero_f (val_f r)
  pub above : (y : Float) → T (fits binary64 y) → T (finite y) → lt_f (val_f r) (val_f y) → lt_f (val_f x) (square_f (midpoint r y))
  pub below : (y : Float) → T (fits binary64 y) → T (finite y) → le_f zero_f (val_f y) → lt_f (val_f y) (val_f r) → lt_f (square_f (midpoint y r)) (val_f x)
