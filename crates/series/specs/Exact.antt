-- The exact values of the elementary functions as document 01 has them ('Exact values are brackets of fractions'): what lies in the bracket of each, as a relation.
use Rattle.std.specs.Prelude.{Bool, cond, ℕ, ◌+◌, ◌*◌}
use Rattle.number.specs.Frac.{Frac, frac, Pos, le_f, lt_f, neg_f, add_f, sub_f, mul_f, div_f, sgn}
use Rattle.series.specs.Sums.{nat_f, over_f, abs_f, eq_f, pow_f, sum_f, factorial, scale_f}

-- ---- ln: 'twice the sum of z^(2i+1)/(2i+1) over 24 terms, plus or minus 2|z|^49/(49(1−z²))', n terms in place of 24
abbrev pub odd_term : Frac → ℕ → Frac
odd_term z i = over_f (pow_f z (2 * i + 1)) (2 * i + 1)

unfoldable pub twice_odds : ℕ → Frac → Frac
twice_odds n z = mul_f (nat_f 2) (sum_f n (odd_term z))

unfoldable pub odd_tail : ℕ → Frac → Frac
odd_tail n z = div_f (mul_f (nat_f 2) (pow_f (abs_f z) (2 * n + 1))) (mul_f (nat_f (2 * n + 1)) (sub_f (nat_f 1) (mul_f z z)))

-- 'ln 2, the same series at z = 1/3 with 48 terms and its like tail'
unfoldable pub ln2_low : Frac
ln2_low = sub_f (twice_odds 48 (frac 1 0 3)) (odd_tail 48 (frac 1 0 3))

unfoldable pub ln2_high : Frac
ln2_high = add_f (twice_odds 48 (frac 1 0 3)) (odd_tail 48 (frac 1 0 3))

-- 'M the middle of the ln 2 bracket'
unfoldable pub middle : Frac
middle = over_f (add_f ln2_low ln2_high) 2

-- 'k times ln 2', k negative if `neg`: the least and the greatest value, the bracket's ends being swapped for a negative k
abbrev pub times_low : Bool → ℕ → Frac
times_low neg k = mul_f (sgn neg k 1) (cond neg ln2_high ln2_low)

abbrev pub times_high : Bool → ℕ → Frac
times_high neg k = mul_f (sgn neg k 1) (cond neg ln2_low ln2_high)

-- 'z = (w−1)/(w+1)'
abbrev pub z_of : Frac → Frac
z_of w = div_f (sub_f w (nat_f 1)) (add_f w (nat_f 1))

-- the ends of the bracket, k negative if `neg`
abbrev pub ln_low : Bool → ℕ → Frac → Frac
ln_low neg k w = add_f (sub_f (twice_odds 24 (z_of w)) (odd_tail 24 (z_of w))) (times_low neg k)

abbrev pub ln_high : Bool → ℕ → Frac → Frac
ln_high neg k w = add_f (add_f (twice_odds 24 (z_of w)) (odd_tail 24 (z_of w))) (times_high neg k)

-- 'ln y: y = 2^k·w with 2/3 ≤ w < 4/3, z = (w−1)/(w+1)': v is in the bracket of ln y
pub record LnValue (y v : Frac) : Type 0 where
  pub neg : Bool
  pub k : ℕ
  pub w : Frac
  pub proper : Pos v × Pos w
  pub splits : eq_f y (scale_f neg k w)
  pub range : le_f (frac 2 0 3) w × lt_f w (frac 4 0 3)
  pub low : le_f (ln_low neg k w) v
  pub high : le_f v (ln_high neg k w)

-- ---- exp: 'the sum of t^i/i! for i below 30, tail 2|t|^30/30!'
abbrev pub exp_term : Frac → ℕ → Frac
exp_term t i = over_f (pow_f t i) (factorial i)

unfoldable pub exp_sum : Frac → Frac
exp_sum t = sum_f 30 (exp_term t)

unfoldable pub exp_tail : Frac → Frac
exp_tail t = over_f (mul_f (nat_f 2) (pow_f (abs_f t) 30)) (factorial 30)

-- v - k l, k negative if `neg`
abbrev pub rest : Frac → Bool → ℕ → Frac → Frac
rest v neg k l = sub_f v (mul_f (sgn neg k 1) l)

-- 2^k times the sum at t, less and more its tail
abbrev pub exp_low : Bool → ℕ → Frac → Frac
exp_low neg k t = scale_f neg k (sub_f (exp_sum t) (exp_tail t))

abbrev pub exp_high : Bool → ℕ → Frac → Frac
exp_high neg k t = scale_f neg k (add_f (exp_sum t) (exp_tail t))

-- 'exp v: v = kM + t with .. −M/2 ≤ t < M/2; over the t that the bracket allows' (v - k l for every value l of ln 2 in its bracket) '.., times 2^k': e is in the bracket of exp v
pub record ExpValue (v e : Frac) : Type 0 where
  pub neg : Bool
  pub k : ℕ
  pub l : Frac
  pub proper : Pos e × Pos l
  pub range : le_f (neg_f (over_f middle 2)) (rest v neg k middle) × lt_f (rest v neg k middle) (over_f middle 2)
  pub ln2 : le_f ln2_low l × le_f l ln2_high
  pub low : le_f (exp_low neg k (rest v neg k l)) e
  pub high : le_f e (exp_high neg k (rest v neg k l))

-- ---- what stands on these two
-- '`ln_1p` v is ln(1 + v)'
abbrev pub Ln1pValue : Frac → Frac → Type 0
Ln1pValue v x = LnValue (add_f (nat_f 1) v) x

-- '`exp_m1` v is exp v − 1'
pub record ExpM1Value (v x : Frac) : Type 0 where
  pub e : Frac
  pub is_exp : ExpValue v e
  pub proper : Pos x
  pub same : eq_f x (sub_f e (nat_f 1))

-- 'tanh v = (exp 2v − 1)/(exp 2v + 1)'
pub record TanhValue (v x : Frac) : Type 0 where
  pub e : Frac
  pub is_exp : ExpValue (mul_f (nat_f 2) v) e
  pub proper : Pos x
  pub same : eq_f x (div_f (sub_f e (nat_f 1)) (add_f e (nat_f 1)))

-- 'Power is exp of exponent times ln': every value of ln x times the exponent y
pub record PowerValue (x y e : Frac) : Type 0 where
  pub l : Frac
  pub is_ln : LnValue x l
  pub is_exp : ExpValue (mul_f y l) e
