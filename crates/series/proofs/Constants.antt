-- ln 2's bracket and its middle M in short numbers, by computation. Assumes nothing.
use mathlib.Core.Bool.{Bool, true, ◌&&◌}
use Prim.Native.Nat.{ℕ, ◌+◌, ◌*◌, ◌^◌, ◌≤◌, ◌<◌}
use lib.Dec.{T, leb, leb→le}
use lib.Ieee.Fits.{and_l, and_r}
use Rattle.number.specs.Frac.{Frac, frac, le_f}
use Rattle.series.specs.Sums.{pow_f, sum_f, eq_f}
use Rattle.series.specs.Exact.{twice_odds, odd_tail, ln2_low, ln2_high, middle}

-- M is mn / md
abbrev pub mn : ℕ
mn = 16510212649069172009262864358926581298686385394203927079566564453647491799608879488

abbrev pub md : ℕ
md = 23819201912834329967423828015829136296505104022312662560609797624441483844628957825

abbrev pub leb_F : Frac → Frac → Bool
leb_F (frac p n d) (frac q m c) = leb (p * c + m * d) (q * d + n * c)

pub leb→le_f : (x y : Frac) → T (leb_F x y) → le_f x y
leb→le_f (frac p n d) (frac q m c) h = leb→le (p * c + m * d) (q * d + n * c) h

pub middle_is : eq_f middle (frac mn 0 md)
unfolding middle ln2_low ln2_high twice_odds odd_tail sum_f pow_f
middle_is = (leb→le_f middle (frac mn 0 md) tt, leb→le_f (frac mn 0 md) middle tt)

-- the bracket is within 2 ^ -159 of M
pub ln2_low_is : le_f (frac (mn * 2 ^ 159) md (md * 2 ^ 159)) ln2_low
unfolding ln2_low twice_odds odd_tail sum_f pow_f
ln2_low_is = leb→le_f (frac (mn * 2 ^ 159) md (md * 2 ^ 159)) ln2_low tt

pub ln2_high_is : le_f ln2_high (frac (mn * 2 ^ 159 + md) 0 (md * 2 ^ 159))
unfolding ln2_high twice_odds odd_tail sum_f pow_f
ln2_high_is = leb→le_f ln2_high (frac (mn * 2 ^ 159 + md) 0 (md * 2 ^ 159)) tt
