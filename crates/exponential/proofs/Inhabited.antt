-- The brackets of exp and tanh are not empty at 0. Assumes nothing.
use mathlib.Core.Bool.{false}
use lib.Dec.{lit<, lit≤}
use Rattle.number.specs.Frac.{frac, zero_f}
use Rattle.series.specs.Sums.{nat_f, pow_f, sum_f, factorial}
use Rattle.series.specs.Exact.{ExpValue, TanhValue, exp_sum, exp_tail, middle, ln2_low, ln2_high, twice_odds, odd_tail}
use Rattle.series.proofs.Constants.{mn, md}

-- 1 lies in that of exp
pub exp_zero : ExpValue zero_f (nat_f 1)
unfolding middle ln2_low ln2_high twice_odds odd_tail sum_f pow_f exp_sum exp_tail factorial
exp_zero =
    record {
      neg = false;
      k = 0;
      l = frac mn 0 md;
      proper = (lit< tt, lit< tt);
      range = (lit≤ tt, lit< tt);
      ln2 = (lit≤ tt, lit≤ tt);
      low = lit≤ tt;
      high = lit≤ tt;
    }

-- 0 lies in that of tanh
pub tanh_zero : TanhValue zero_f zero_f
tanh_zero =
    record {
      e = nat_f 1;
      is_exp = exp_zero;
      proper = lit< tt;
      same = (lit≤ tt, lit≤ tt);
    }
