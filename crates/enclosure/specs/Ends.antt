-- What a two-ended operation answers, and what demand 3 says of its ends.
use Rattle.std.specs.Prelude.{◌≡◌, cond, T, Float}
use Rattle.std.proofs.Math.Option.{some}
use Rattle.std.specs.Float.Ieee.Scale.{finite}
use Rattle.number.specs.Frac.{Frac, Pos, le_f, val_f}
use Rattle.number.specs.Ans.{Ans, held, refused, ◌>>=◌}
use Rattle.number.specs.Arith.{Constant}
use Rattle.enclosure.specs.declared.Enclosure.{Enclosure}
use Rattle.enclosure.specs.declared.Ends.{Ends}
use Rattle.enclosure.specs.Constants.{Choice, below, above}
use Rattle.enclosure.specs.Exact.{Exact}

-- 7 if the float result is not finite
unfoldable pub or_not_finite : Float → Ans Float
or_not_finite v = cond (finite v) (held v) (refused 7)

-- the two ends of an enclosure
abbrev pub ends_in : Enclosure → Ends
ends_in b = record { lower = b.ends.lower; upper = b.ends.upper }

-- 8 if at any operation on the way a divisor's ends enclosed or touched zero, or an end was not finite
unfoldable pub or_unsound : Enclosure → Ans Ends
or_unsound b = cond b.ends.sound (held (ends_in b)) (refused 8)

-- the float operation's refusals, 7 among them, then 8, then the ends
unfoldable pub ends_of : Ans Float → Ans Enclosure → Ans Ends
ends_of float enclosure = float >>= λ _. enclosure >>= or_unsound

-- the same where the float operation is the enclosures' own value, 7 if that is not finite
unfoldable pub ends_alone : Ans Enclosure → Ans Ends
ends_alone enclosure = ends_of (enclosure >>= λ b. or_not_finite b.value) enclosure

-- ---- demand 3
-- lower ≤ q ≤ upper, compared as fractions
pub record Between (lower : Float) (q : Frac) (upper : Float) : Type 0 where
  pub lower_finite : T (finite lower)
  pub upper_finite : T (finite upper)
  pub den : Pos q
  pub from : le_f (val_f lower) q
  pub to : le_f q (val_f upper)

-- A choice is fair if it takes for each constant a fraction between the two floats that enclose it. (A decimal beyond the largest f64 has no such floats.)
pub record Fair (q : Choice) : Type 0 where
  pub between : (c : Constant) → T (finite (below c)) → T (finite (above c)) → Between (below c) (q c) (above c)

-- the float run holds a finite value, the exact run divides by no zero and holds a fraction, and both lie between the ends or on them
pub record Encloses (e : Ends) (float : Ans Float) (exact : Ans Exact) : Type 0 where
  pub value : Float
  pub fraction : Frac
  pub float_holds : float ≡ held value
  pub exact_holds : exact ≡ held (record { value = value; exact = some fraction })
  pub value_finite : T (finite value)
  pub value_between : Between e.lower (val_f value) e.upper
  pub fraction_between : Between e.lower fraction e.upper
