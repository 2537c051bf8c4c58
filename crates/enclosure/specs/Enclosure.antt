-- The two-ended run: the float run's value beside the ends. Branches and elementary calls look at the value, the outward rules at the ends.
use Rattle.std.specs.Prelude.{ℕ, ◌&&◌, Float}
use Rattle.std.specs.Float.Ieee as Ieee
use Rattle.std.specs.Float.{binary64}
use Rattle.number.specs.Arith.{Arith, Constant, floats, nearest}
use Rattle.interval.specs.Interval as Interval
use Rattle.interval.specs.Interval.{add_i, sub_i, mul_i, div_i, neg_i, pow_i, down_i, after_i}
use Rattle.enclosure.specs.declared.Enclosure.{Enclosure}
use Rattle.enclosure.specs.Constants.{below, above}

unfoldable pub point : Float → Enclosure
point x = record { value = x; ends = Interval.point x }

-- a constant: the Rust's float between the two that enclose it; sound if both are finite
unfoldable pub constant_e : Constant → Enclosure
constant_e c = record { value = nearest c; ends = record { lower = below c; upper = above c; sound = (Interval.point (below c)).sound && (Interval.point (above c)).sound } }

unfoldable pub add_e : Enclosure → Enclosure → Enclosure
add_e x y = record { value = Ieee.add binary64 x.value y.value; ends = add_i x.ends y.ends }

unfoldable pub sub_e : Enclosure → Enclosure → Enclosure
sub_e x y = record { value = Ieee.sub binary64 x.value y.value; ends = sub_i x.ends y.ends }

unfoldable pub mul_e : Enclosure → Enclosure → Enclosure
mul_e x y = record { value = Ieee.mul binary64 x.value y.value; ends = mul_i x.ends y.ends }

unfoldable pub div_e : Enclosure → Enclosure → Enclosure
div_e x y = record { value = Ieee.div binary64 x.value y.value; ends = div_i x.ends y.ends }

unfoldable pub neg_e : Enclosure → Enclosure
neg_e x = record { value = Ieee.neg x.value; ends = neg_i x.ends }

unfoldable pub pow_e : Enclosure → ℕ → Enclosure
pow_e x n = record { value = floats.pow x.value n; ends = pow_i x.ends n }

unfoldable pub down_e : Enclosure → ℕ → Enclosure
down_e x n = record { value = floats.pow_down x.value n; ends = down_i x.ends n }

unfoldable pub after_e : Enclosure → Enclosure → Enclosure
after_e u x = record { value = x.value; ends = after_i u.ends x.ends }

-- the arithmetic of the two-ended run
abbrev pub enclosures : Arith
enclosures =
    record {
      Num = Enclosure;
      add = add_e;
      sub = sub_e;
      mul = mul_e;
      div = div_e;
      neg = neg_e;
      pow = pow_e;
      pow_down = down_e;
      lit = point;
      constant = constant_e;
      val = λ x. x.value;
      after = after_e;
    }
