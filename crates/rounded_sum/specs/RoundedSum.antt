-- The sum of two floats, rounded, and what the rounding left as a second float.
use Rattle.std.specs.Prelude.{true, false, cond, ◌-◌, T, ltb, Float}
use Rattle.std.specs.Float.{binary64}
use Rattle.std.specs.Float.Ieee.{round, add, fits}
use Rattle.std.specs.Float.Ieee.Scale.{finite}
use Rattle.number.specs.Arith.{zero64}
use Rattle.number.specs.Frac.{Frac, frac, le_f, add_f, sub_f, val_f}
use Rattle.rounded_sum.specs.declared.RoundedSum.{RoundedSum}

-- the same fraction: each at most the other
abbrev pub Same : Frac → Frac → Type 0
Same x y = le_f x y × le_f y x

-- the f64 nearest to a fraction; to zero it is +0
unfoldable pub nearest_to : Frac → Float
nearest_to (frac p n d) = cond (ltb p n) (round binary64 true (n - p) d) (round binary64 false (p - n) d)

-- what is left of x + y once s is taken off, as fractions
abbrev pub left_of : Float → Float → Float → Frac
left_of x y s = sub_f (add_f (val_f x) (val_f y)) (val_f s)

-- Slip 5: the rounded sum and the float nearest to what it leaves, +0 if nothing. `sum-exact` says that this float is all of what is left. Where the sum is not finite nothing is left to tell, and +0 is given.
unfoldable pub rounded_sum : Float → Float → RoundedSum
rounded_sum x y = let s = add binary64 x y in record { sum = s; remainder = cond (finite s) (nearest_to (left_of x y s)) zero64 }

-- r's two floats taken as fractions add up to x + y exactly
pub record SumsExactly (x y : Float) (r : RoundedSum) : Type 0 where
  pub remainder_finite : T (finite r.remainder)
  pub remainder_held : T (fits binary64 r.remainder)
  pub exact : Same (add_f (val_f r.sum) (val_f r.remainder)) (add_f (val_f x) (val_f y))
