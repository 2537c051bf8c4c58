-- Where the brackets end, in numbers, at one argument for each series: this fixes the numbers of terms and the tails. By computation; assumes nothing.
use mathlib.Core.Path.{◌≡◌, subst}
use mathlib.Core.Bool.{Bool, false}
use Prim.Native.Nat.{ℕ, ◌+◌, ◌^◌}
use lib.Dec.{lit<, lit≤}
use Rattle.number.specs.Frac.{Frac, frac, Pos, le_f}
use Rattle.number.proofs.Frac.{le_trans_f}
use Rattle.series.specs.Sums.{nat_f, pow_f, sum_f, factorial}
use Rattle.series.specs.Exact.{twice_odds, odd_tail, ln2_low, ln2_high, middle, ln_low, ln_high, LnValue, exp_sum, exp_tail, rest, exp_low, exp_high, ExpValue}

-- ---- ln (2/3), where z = -1/5 is the largest in size: the bracket is some 6516 units of 2 ^ -130 wide
abbrev w : Frac
w = frac 2 0 3

abbrev ln_at : ℕ → Frac
ln_at n = frac 0 (551890506763601493862200167585265352363 + n) (2 ^ 130)

pub ln_least : LnValue w (ln_at 6516)
unfolding ln2_low ln2_high twice_odds odd_tail sum_f pow_f
ln_least = record { neg = false; k = 0; w = w; proper = (lit< tt, lit< tt); splits = (lit≤ tt, lit≤ tt); range = (lit≤ tt, lit< tt); low = lit≤ tt; high = lit≤ tt }

pub ln_greatest : LnValue w (ln_at 1)
unfolding ln2_low ln2_high twice_odds odd_tail sum_f pow_f
ln_greatest = record { neg = false; k = 0; w = w; proper = (lit< tt, lit< tt); splits = (lit≤ tt, lit≤ tt); range = (lit≤ tt, lit< tt); low = lit≤ tt; high = lit≤ tt }

ln_ends : (le_f (ln_at 6517) (ln_low false 0 w) × Pos (ln_low false 0 w)) × (le_f (ln_high false 0 w) (ln_at 0) × Pos (ln_high false 0 w))
unfolding ln2_low ln2_high twice_odds odd_tail sum_f pow_f
ln_ends = ((lit≤ tt, lit< tt), (lit≤ tt, lit< tt))

-- no value lies a unit of 2 ^ -130 beyond
pub ln_between : (v : Frac) (p : LnValue w v) → p.neg ≡ false → p.k ≡ 0 → p.w ≡ w → le_f (ln_at 6517) v × le_f v (ln_at 0)
ln_between v p n k q =
    let l : le_f (ln_low false 0 w) v = at (λ (neg : Bool) (k : ℕ) (w : Frac). le_f (ln_low neg k w) v) p.low in
    let h : le_f v (ln_high false 0 w) = at (λ (neg : Bool) (k : ℕ) (w : Frac). le_f v (ln_high neg k w)) p.high in
    (le_trans_f (ln_at 6517) (ln_low false 0 w) v ln_ends.0.1 ln_ends.0.0 l, le_trans_f v (ln_high false 0 w) (ln_at 0) ln_ends.1.1 h ln_ends.1.0)
  where
    at : (P : Bool → ℕ → Frac → Type 0) → P p.neg p.k p.w → P false 0 w
    at P h = subst (P false 0) q (subst (λ (k : ℕ). P false k p.w) k (subst (λ (neg : Bool). P neg p.k p.w) n h))

-- ---- exp 1 is twice exp (1 - ln 2), with a short fraction of ln 2's bracket for it: the bracket is some 18299 units of 2 ^ -170 wide
abbrev ln2 : Frac
ln2 = frac 594172119120842350869289 0 857209169690125691792994

abbrev exp_at : ℕ → Frac
exp_at n = frac (4068119903252208832996614876725878081924524081158852 + n) 0 (2 ^ 170)

-- 1 - ln 2
abbrev t : Frac
t = rest (nat_f 1) false 1 ln2

pub exp_least : ExpValue (nat_f 1) (exp_at 1)
unfolding middle ln2_low ln2_high twice_odds odd_tail exp_sum exp_tail factorial sum_f pow_f
exp_least = record { neg = false; k = 1; l = ln2; proper = (lit< tt, lit< tt); range = (lit≤ tt, lit< tt); ln2 = (lit≤ tt, lit≤ tt); low = lit≤ tt; high = lit≤ tt }

pub exp_greatest : ExpValue (nat_f 1) (exp_at 18299)
unfolding middle ln2_low ln2_high twice_odds odd_tail exp_sum exp_tail factorial sum_f pow_f
exp_greatest = record { neg = false; k = 1; l = ln2; proper = (lit< tt, lit< tt); range = (lit≤ tt, lit< tt); ln2 = (lit≤ tt, lit≤ tt); low = lit≤ tt; high = lit≤ tt }

exp_ends : (le_f (exp_at 0) (exp_low false 1 t) × Pos (exp_low false 1 t)) × (le_f (exp_high false 1 t) (exp_at 18300) × Pos (exp_high false 1 t))
unfolding exp_sum exp_tail factorial sum_f pow_f
exp_ends = ((lit≤ tt, lit< tt), (lit≤ tt, lit< tt))

-- no value lies a unit of 2 ^ -170 beyond
pub exp_between : (e : Frac) (p : ExpValue (nat_f 1) e) → p.neg ≡ false → p.k ≡ 1 → p.l ≡ ln2 → le_f (exp_at 0) e × le_f e (exp_at 18300)
exp_between e p n k l =
    let low : le_f (exp_low false 1 t) e = at (λ (neg : Bool) (k : ℕ) (l : Frac). le_f (exp_low neg k (rest (nat_f 1) neg k l)) e) p.low in
    let high : le_f e (exp_high false 1 t) = at (λ (neg : Bool) (k : ℕ) (l : Frac). le_f e (exp_high neg k (rest (nat_f 1) neg k l))) p.high in
    (le_trans_f (exp_at 0) (exp_low false 1 t) e exp_ends.0.1 exp_ends.0.0 low, le_trans_f e (exp_high false 1 t) (exp_at 18300) exp_ends.1.1 high exp_ends.1.0)
  where
    at : (P : Bool → ℕ → Frac → Type 0) → P p.neg p.k p.l → P false 1 ln2
    at P h = subst (P false 1) l (subst (λ (k : ℕ). P false k p.l) k (subst (λ (neg : Bool). P neg p.k p.l) n h))
