-- A value of exp near that of ln x, for each base x of the domain, and near x. Assumes nothing.
use mathlib.Core.Path.{◌≡◌, sym, subst}
use mathlib.Core.Bool.{Bool, true, false}
use Prim.Native.Nat.{ℕ, ◌+◌, ◌-◌, ◌*◌, ◌^◌, ◌≤◌, ◌<◌}
use native.Mathlib.Nat.{le_of_eq, one-mul, zero-mul, mul-le-mul_right, mul-pos, one-le-pow}
use native.Mathlib.Omega.{arith}
use lib.Dec.{lit<}
use lib.Pow.{pow_pos}
use Rattle.number.specs.Frac.{Frac, frac, Pos, le_f, lt_f, zero_f, neg_f, add_f, sub_f, mul_f, sgn}
use Rattle.number.proofs.Frac.{ring, le_trans_f, le_refl_f, le_lt_trans_f, add_f_pos, mul_f_pos, neg_f_pos, sgn_pos}
use Rattle.fixed_point.proofs.Horner.{ring as sums}
use Rattle.series.specs.Sums.{nat_f, over_f, eq_f, pow_f, sum_f, factorial, scale_f}
use Rattle.series.specs.Exact.{ExpValue, exp_sum, exp_tail, middle, rest, ln2_low, ln2_high, twice_odds, odd_tail}
use Rattle.series.proofs.Constants.{mn, md, middle_is, leb→le_f}
use Rattle.logarithm.proofs.Fractions.{pow_plain, add_cong, neg_cong, eq_refl_f, eq_trans_f}
use Rattle.exponential.proofs.Bounds.{Bound, bound_eq, bound_up, bound_add, bound_mul, exp_moves, sum_pos, scaled}
use Rattle.series.proofs.Fractions.{over_mono}
use Rattle.exponential.proofs.Literal.{factorial_pos}

-- ---- ln 2's middle
pub middle_pos : Pos middle
unfolding middle ln2_low ln2_high twice_odds odd_tail sum_f pow_f
middle_pos = lit< tt

middle_in : le_f ln2_low middle × le_f middle ln2_high
unfolding middle ln2_low ln2_high twice_odds odd_tail sum_f pow_f
middle_in = (leb→le_f ln2_low middle tt, leb→le_f middle ln2_high tt)

pub half_is : eq_f (over_f middle 2) (frac mn 0 (md * 2))
half_is = (over_mono middle (frac mn 0 md) 2 middle_is.0, over_mono (frac mn 0 md) middle 2 middle_is.1)

pub half_pos : Pos (over_f middle 2)
half_pos = go middle middle_pos
  where
    go : (x : Frac) → Pos x → Pos (over_f x 2)
    go (frac p n d) h = mul-pos h (lit< tt)

-- ---- a power of 2 as a factor
abbrev factor : Bool → ℕ → Frac
factor false k = frac (2 ^ k) 0 1
factor true k = frac 1 0 (2 ^ k)

factor_pos : (neg : Bool) (k : ℕ) → Pos (factor neg k)
factor_pos false k = lit< tt
factor_pos true k = pow_pos k

scale_is : (neg : Bool) (k : ℕ) (y : Frac) → eq_f (scale_f neg k y) (mul_f (factor neg k) y)
scale_is false k y = (le_refl_f (mul_f (nat_f (2 ^ k)) y), le_refl_f (mul_f (nat_f (2 ^ k)) y))
scale_is true k (frac p n d) = go p n d (2 ^ k)
  where
    go : (p n d c : ℕ) → eq_f (frac p n (d * c)) (mul_f (frac 1 0 c) (frac p n d))
    go p n d c = (le_of_eq (simp (sums, one-mul, zero-mul)), le_of_eq (simp (sums, one-mul, zero-mul)))

scale_pos : (neg : Bool) (k : ℕ) (y : Frac) → Pos y → Pos (scale_f neg k y)
scale_pos false k y h = mul_f_pos (nat_f (2 ^ k)) y (lit< tt) h
scale_pos true k (frac p n d) h = mul-pos h (pow_pos k)

scale_mono : (neg : Bool) (k : ℕ) (x y : Frac) → le_f x y → le_f (scale_f neg k x) (scale_f neg k y)
scale_mono false k x y h = scaled (2 ^ k) 1 x y h
scale_mono true k (frac p n d) (frac q m c) h = over_mono (frac p n d) (frac q m c) (2 ^ k) h

-- ---- the tail is not negative
tail_above : (t : Frac) → Pos t → le_f zero_f (exp_tail t) × Pos (exp_tail t)
unfolding exp_tail
tail_above (frac p n d) h = subst (λ (z : Frac). le_f zero_f (over_f (mul_f (nat_f 2) z) (factorial 30)) × Pos (over_f (mul_f (nat_f 2) z) (factorial 30))) (sym (pow_plain ((p - n) + (n - p)) d 30)) (go ((((p - n) + (n - p)) ^ 30)) (d ^ 30) (factorial 30) (one-le-pow 30 d h) (factorial_pos 30))
  where
    go : (a c f : ℕ) → 0 < c → 0 < f → le_f zero_f (over_f (mul_f (nat_f 2) (frac a 0 c)) f) × Pos (over_f (mul_f (nat_f 2) (frac a 0 c)) f)
    go a c f h k = (small (1 * c * f) (2 * a + 0 * 0) (2 * 0 + 0 * a) (none a), mul-pos (mul-pos {m = 1} (lit< tt) h) k)
      where
        none : (a : ℕ) → 2 * 0 + 0 * a ≡ 0
        none a = omega arith

        small : (d x y : ℕ) → y ≡ 0 → 0 * d + y * 1 ≤ x * 1 + 0 * d
        small d x y h = omega arith

less_tail : (s t : Frac) → le_f zero_f t → le_f (sub_f s t) s
less_tail (frac a b c) (frac p n d) h = go a b c p n d h
  where
    go : (a b c p n d : ℕ) → 0 * d + n * 1 ≤ p * 1 + 0 * d → (a * d + n * c) * c + b * (c * d) ≤ a * (c * d) + (b * d + p * c) * c
    go a b c p n d h = let z = mul-le-mul_right (c * c) (plain n p d h) in let y = simp ring at z in simp ring (omega arith)
      where
        plain : (n p d : ℕ) → 0 * d + n * 1 ≤ p * 1 + 0 * d → n ≤ p
        plain n p d h = omega arith

more_tail : (s t : Frac) → le_f zero_f t → le_f s (add_f s t)
more_tail (frac a b c) (frac p n d) h = go a b c p n d h
  where
    go : (a b c p n d : ℕ) → 0 * d + n * 1 ≤ p * 1 + 0 * d → a * (c * d) + (b * d + n * c) * c ≤ (a * d + p * c) * c + b * (c * d)
    go a b c p n d h = let z = mul-le-mul_right (c * c) (plain n p d h) in let y = simp ring at z in simp ring (omega arith)
      where
        plain : (n p d : ℕ) → 0 * d + n * 1 ≤ p * 1 + 0 * d → n ≤ p
        plain n p d h = omega arith

-- ---- v with a rest within half of ln 2 has the value 2 ^ k times the sum at the rest
module _ (v : Frac) (vp : Pos v) (neg : Bool) (k : ℕ) where
  abbrev r : Frac
  r = rest v neg k middle

  km_pos : Pos (mul_f (sgn neg k 1) middle)
  km_pos = mul_f_pos (sgn neg k 1) middle (sgn_pos neg k 1 (lit< tt)) middle_pos

  r_pos : Pos r
  r_pos = add_f_pos v (neg_f (mul_f (sgn neg k 1) middle)) vp (neg_f_pos (mul_f (sgn neg k 1) middle) km_pos)

  sum_positive : Pos (exp_sum r)
  unfolding exp_sum
  sum_positive = sum_pos r r_pos 30

  pub value_of : le_f (neg_f (over_f middle 2)) r → lt_f r (over_f middle 2) → ExpValue v (scale_f neg k (exp_sum r))
  value_of low high = record {
    neg = neg;
    k = k;
    l = middle;
    proper = (scale_pos neg k (exp_sum r) sum_positive, middle_pos);
    range = (low, high);
    ln2 = middle_in;
    low = scale_mono neg k (sub_f (exp_sum r) (exp_tail r)) (exp_sum r) (less_tail (exp_sum r) (exp_tail r) (tail_above r r_pos).0);
    high = scale_mono neg k (exp_sum r) (add_f (exp_sum r) (exp_tail r)) (more_tail (exp_sum r) (exp_tail r) (tail_above r r_pos).0);
  }

-- ---- t within half of ln 2, as the rest of k ln 2 + t
module _ (neg : Bool) (k : ℕ) (t : Frac) (tp : Pos t) (low : le_f (neg_f (over_f middle 2)) t) (high : lt_f t (over_f middle 2)) where
  abbrev v : Frac
  v = add_f (mul_f (sgn neg k 1) middle) t

  pub v_pos : Pos v
  v_pos = add_f_pos (mul_f (sgn neg k 1) middle) t (mul_f_pos (sgn neg k 1) middle (sgn_pos neg k 1 (lit< tt)) middle_pos) tp

  abbrev q : Frac
  q = r v v_pos neg k

  q_pos : Pos q
  q_pos = r_pos v v_pos neg k

  q_is : eq_f q t
  q_is = go (mul_f (sgn neg k 1) middle) t
    where
      go : (a t : Frac) → eq_f (sub_f (add_f a t) a) t
      go (frac p n d) (frac q m c) = (le_of_eq (simp sums), le_of_eq (simp sums))

  abbrev value : Frac
  value = scale_f neg k (exp_sum q)

  q_sum : Pos (exp_sum q)
  q_sum = sum_positive v v_pos neg k

  pub moved_value : ExpValue v value
  moved_value = value_of v v_pos neg k (le_trans_f (neg_f (over_f middle 2)) t q tp low q_is.1) (le_lt_trans_f q t (over_f middle 2) q_pos tp q_is.0 high)

  -- near a number x = 2 ^ k w, where w is near the sum at τ and t near τ
  module _ (τ w x : Frac) (τp : Pos τ) (wp : Pos w) (xp : Pos x) (is : eq_f x (scale_f neg k w)) (ht : Bound t (frac 9 0 25)) (hτ : Bound τ (frac 9 0 25)) (near : Bound (sub_f t τ) (frac 3 0 (2 ^ 60)))
      (sum : Bound (sub_f (exp_sum τ) w) (frac 1 0 (2 ^ 52))) (size : le_f (frac 261 0 (2 ^ 60)) (mul_f (frac 512 0 (2 ^ 60)) w)) where
    abbrev η : Frac
    η = frac 512 0 (2 ^ 60)

    abbrev S : Frac
    S = exp_sum q

    τ_positive : Pos (exp_sum τ)
    unfolding exp_sum
    τ_positive = sum_pos τ τp 30

    sub_pos : (a b : Frac) → Pos a → Pos b → Pos (sub_f a b)
    sub_pos a b A B = add_f_pos a (neg_f b) A (neg_f_pos b B)

    moved : Bound (sub_f S (exp_sum τ)) (mul_f (frac 3 0 (2 ^ 60)) (frac 36 0 25))
    moved = exp_moves q τ 3 (2 ^ 60) q_pos τp (lit< tt) (bound_eq t q (frac 9 0 25) tp q_is ht) hτ (bound_eq (sub_f t τ) (sub_f q τ) (frac 3 0 (2 ^ 60)) (sub_pos t τ tp τp) (add_cong q t (neg_f τ) (neg_f τ) q_is (eq_refl_f (neg_f τ))) near)

    sizes : le_f (add_f (mul_f (frac 3 0 (2 ^ 60)) (frac 36 0 25)) (frac 1 0 (2 ^ 52))) (frac 261 0 (2 ^ 60))
    sizes = leb→le_f (add_f (mul_f (frac 3 0 (2 ^ 60)) (frac 36 0 25)) (frac 1 0 (2 ^ 52))) (frac 261 0 (2 ^ 60)) tt

    sum_near : Bound (sub_f S w) (mul_f η w)
    sum_near =
        bound_up (sub_f S w) (frac 261 0 (2 ^ 60)) (mul_f η w) (lit< tt) size
        (bound_eq (add_f (sub_f S (exp_sum τ)) (sub_f (exp_sum τ) w)) (sub_f S w) (frac 261 0 (2 ^ 60)) (add_f_pos (sub_f S (exp_sum τ)) (sub_f (exp_sum τ) w) (sub_pos S (exp_sum τ) q_sum τ_positive) (sub_pos (exp_sum τ) w τ_positive wp)) (through S (exp_sum τ) w)
        (bound_up (add_f (sub_f S (exp_sum τ)) (sub_f (exp_sum τ) w)) (add_f (mul_f (frac 3 0 (2 ^ 60)) (frac 36 0 25)) (frac 1 0 (2 ^ 52))) (frac 261 0 (2 ^ 60)) (lit< tt) sizes
        (bound_add (sub_f S (exp_sum τ)) (sub_f (exp_sum τ) w) (mul_f (frac 3 0 (2 ^ 60)) (frac 36 0 25)) (frac 1 0 (2 ^ 52)) moved sum)))
      where
        through : (a b c : Frac) → eq_f (sub_f a c) (add_f (sub_f a b) (sub_f b c))
        through (frac p n d) (frac q m c) (frac x y z) = (le_of_eq (simp sums), le_of_eq (simp sums))

    abbrev c : Frac
    c = factor neg k

    itself : (neg : Bool) → Bound (factor neg k) (factor neg k)
    itself false = (le_refl_f (frac (2 ^ k) 0 1), small (2 ^ k))
      where
        small : (a : ℕ) → 0 * 1 + 0 * 1 ≤ a * 1 + a * 1
        small a = omega arith
    itself true = (le_refl_f (frac 1 0 (2 ^ k)), small (2 ^ k))
      where
        small : (a : ℕ) → 0 * a + 0 * a ≤ 1 * a + 1 * a
        small a = omega arith

    pub value_near : Bound (sub_f value x) (mul_f η x)
    value_near =
        bound_eq (mul_f c (sub_f S w)) (sub_f value x) (mul_f η x) (mul_f_pos c (sub_f S w) (factor_pos neg k) (sub_pos S w q_sum wp))
        (eq_trans_f (sub_f value x) (sub_f (mul_f c S) (mul_f c w)) (mul_f c (sub_f S w)) (sub_pos (mul_f c S) (mul_f c w) (mul_f_pos c S (factor_pos neg k) q_sum) (mul_f_pos c w (factor_pos neg k) wp)) (add_cong value (mul_f c S) (neg_f x) (neg_f (mul_f c w)) (scale_is neg k S) (neg_cong x (mul_f c w) same)) (out c S w))
        (bound_up (mul_f c (sub_f S w)) (mul_f c (mul_f η w)) (mul_f η x) (mul_f_pos c (mul_f η w) (factor_pos neg k) (mul_f_pos η w (lit< tt) wp))
        (le_trans_f (mul_f c (mul_f η w)) (mul_f η (mul_f c w)) (mul_f η x) (mul_f_pos η (mul_f c w) (lit< tt) (mul_f_pos c w (factor_pos neg k) wp)) (across c η w) (scaled 512 (2 ^ 60) (mul_f c w) x same.1))
        (bound_mul c (sub_f S w) c (mul_f η w) (itself neg) sum_near))
      where
        same : eq_f x (mul_f c w)
        same = eq_trans_f x (scale_f neg k w) (mul_f c w) (scale_pos neg k w wp) is (scale_is neg k w)

        out : (c a b : Frac) → eq_f (sub_f (mul_f c a) (mul_f c b)) (mul_f c (sub_f a b))
        out (frac p n d) (frac q m e) (frac x y z) = (le_of_eq (simp sums), le_of_eq (simp sums))

        across : (c e w : Frac) → le_f (mul_f c (mul_f e w)) (mul_f e (mul_f c w))
        across (frac p n d) (frac q m e) (frac x y z) = le_of_eq (simp sums)
