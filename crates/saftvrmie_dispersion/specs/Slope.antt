-- Slopes of the dividends of i and j, all of whose numbers are plain, and what the code asks so that the slope of a quotient by a plain number need not be worked: contracts of helpers. That a sum then loses it is shown in proofs/Lost.
use Rattle.std.specs.Prelude.{Bool, true, not, ◌&&◌, Float}
use Rattle.std.specs.Float.Ieee as Ieee
use Rattle.std.specs.Float.{binary64}
use Rattle.std.specs.Float.Ieee.{of_bits, fits, lt}
use Rattle.std.specs.Float.Ieee.Scale.{finite}
use Rattle.number.specs.Arith.{zero64, one64}
use Rattle.interval.specs.declared.Interval.{Interval}
use Rattle.enclosure.specs.declared.Enclosure.{Enclosure}
use Rattle.enclosure.specs.Enclosure.{point, add_e, sub_e, mul_e, div_e, neg_e}

abbrev pub finite_ends : Enclosure → Bool
finite_ends x = finite x.ends.lower && finite x.ends.upper

abbrev zero : Enclosure
zero = point zero64

-- the slope of `iBy`'s dividend, the negative of x0^(3-lambda) - 1, by the rules of dual numbers
unfoldable pub i_slope : Enclosure
i_slope = neg_e (sub_e zero zero)

-- of `jBy`'s, the negative of x0^(4-lambda) (lambda - 3) - x0^(3-lambda) (lambda - 4) - 1
unfoldable pub j_slope : Enclosure → Enclosure → Enclosure → Enclosure → Enclosure
j_slope p4 p3 l3 l4 = neg_e (sub_e (sub_e (add_e (mul_e zero l3) (mul_e p4 zero)) (add_e (mul_e zero l4) (mul_e p3 zero))) zero)

-- of a quotient of c, whose slope is t, by a plain number e
unfoldable pub quotient_slope : Enclosure → Enclosure → Enclosure → Enclosure
quotient_slope t c e = div_e (sub_e (mul_e t e) (mul_e c zero)) (mul_e e e)

-- 2 ^ -800 and 2 ^ 100
abbrev pub faint : Float
faint = of_bits binary64 0x0df0_0000_0000_0000

abbrev pub big : Float
big = of_bits binary64 0x4630_0000_0000_0000

-- a sum with 2 ^ -800, or its negative, leaves x
unfoldable pub stays_of : Float → Bool
stays_of x = not (lt x (Ieee.add binary64 x faint)) && not (lt (Ieee.sub binary64 x faint) x)

-- ends in order, from 0 to 2 ^ 100 (every f64 fits the format, so that the last tests, here and below, are for the logic alone)
unfoldable pub moderate_of : Float → Float → Bool
moderate_of l u = lt zero64 l && not (lt u l) && lt u big && fits binary64 l && fits binary64 u

-- less than sixteen steps from zero
unfoldable pub tiny_of : Float → Bool
tiny_of x = lt (of_bits binary64 0x8000_0000_0000_0010) x && lt x (of_bits binary64 16) && fits binary64 x

unfoldable pub tiny_slope : Interval → Bool
tiny_slope t = t.sound && tiny_of t.lower && tiny_of t.upper

-- the slope of a tiny dividend's quotient by e, times b, is lost in a sum with x
unfoldable pub lost_in : Interval → Interval → Interval → Bool
lost_in x b e = (x.sound && stays_of x.lower && stays_of x.upper) && (b.sound && moderate_of b.lower b.upper) && moderate_of e.lower e.upper && lt one64 e.lower

-- the sum where it is lost, of the values of b, t, c and e: ends as with 0
unfoldable pub lost_sum : Enclosure → Float → Float → Float → Float → Enclosure
lost_sum x b t c e =
    add_e x
    (record {
      value = Ieee.mul binary64 b (Ieee.div binary64 (Ieee.sub binary64 (Ieee.mul binary64 t e) (Ieee.mul binary64 c zero64)) (Ieee.mul binary64 e e));
      ends = record { lower = zero64; upper = zero64; sound = true };
    })
