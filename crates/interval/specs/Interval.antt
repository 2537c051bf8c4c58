-- Document 01's two ends and its outward rules. The literature says interval, lower and upper; document 01 says two ends.
use Rattle.std.specs.Prelude.{ℕ, Bool, ◌&&◌, ◌||◌, Float}
use Rattle.std.specs.Float.Ieee as Ieee
use Rattle.std.specs.Float.{binary64}
use Rattle.std.specs.Float.Ieee.{fits, lt}
use Rattle.std.specs.Float.Ieee.Scale.{finite}
use Rattle.number.specs.Neighbour.{next_up, next_down, least, greatest}
use Rattle.number.specs.Power.{pow_up}
use Rattle.number.specs.Arith.{zero64, one64}
use Rattle.interval.specs.declared.Interval.{Interval}

-- An input, a constant or an elementary answer is a single point. It is sound if it is finite. (Every f64 fits the format, so that the second test is for the logic alone, whose floats need not.)
unfoldable pub point : Float → Interval
point x = record { lower = x; upper = x; sound = finite x && fits binary64 x }

-- Each end moves one f64 outward. g says whether all was sound so far; then the new ends must be finite.
unfoldable pub outward : Bool → Float → Float → Interval
outward g a b = record { lower = next_down a; upper = next_up b; sound = g && finite (next_down a) && finite (next_up b) }

-- the least and the greatest of four rounded corners, moved outward
unfoldable pub around : Bool → Float → Float → Float → Float → Interval
around g a b c d = outward g (least (least a b) (least c d)) (greatest (greatest a b) (greatest c d))

abbrev pub corners : (Float → Float → Float) → Bool → Interval → Interval → Interval
corners op g x y = around g (op x.lower y.lower) (op x.lower y.upper) (op x.upper y.lower) (op x.upper y.upper)

-- Sum, difference and product take the least and greatest rounded corner;
unfoldable pub add_i : Interval → Interval → Interval
add_i x y = corners (Ieee.add binary64) (x.sound && y.sound) x y

unfoldable pub sub_i : Interval → Interval → Interval
sub_i x y = corners (Ieee.sub binary64) (x.sound && y.sound) x y

unfoldable pub mul_i : Interval → Interval → Interval
mul_i x y = corners (Ieee.mul binary64) (x.sound && y.sound) x y

-- a quotient likewise, the divisor's ends being of one sign: they neither enclose nor touch zero.
unfoldable pub one_sign : Interval → Bool
one_sign y = lt zero64 y.lower || lt y.upper zero64

unfoldable pub div_i : Interval → Interval → Interval
div_i x y = corners (Ieee.div binary64) (x.sound && y.sound && one_sign y) x y

-- Negation swaps ends.
unfoldable pub neg_i : Interval → Interval
neg_i x = record { lower = Ieee.neg x.upper; upper = Ieee.neg x.lower; sound = x.sound }

-- Whole powers follow document 01's rule: it starts with the point 1; a negative exponent ends with 1 divided by the power.
unfoldable pub pow_i : Interval → ℕ → Interval
pow_i x n = pow_up mul_i (point one64) x n

unfoldable pub down_i : Interval → ℕ → Interval
down_i x n = div_i (point one64) (pow_i x n)

-- x, where u was worked on the way: every operation counts, whether its value is used or not
unfoldable pub after_i : Interval → Interval → Interval
after_i u x = record { lower = x.lower; upper = x.upper; sound = u.sound && x.sound }
