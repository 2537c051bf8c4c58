-- Document 01's values of exp v for |v| at most 1/4: the cut is at 0, so they are the sum at v itself and its tail. Assumes nothing.
use mathlib.Core.Path.{◌≡◌, subst}
use mathlib.Core.Bool.{Bool, true, false}
use Prim.Native.Nat.{ℕ, ◌+◌, ◌*◌, ◌≤◌, ◌<◌}
use native.Mathlib.Nat.{add-mul, mul-zero, zero-mul, one-mul, mul-one, add-zero, zero-add, mul-pos, mul-le-mul_right, le_of_mul-le-mul_right, lt_of_mul-lt-mul_right}
use native.Mathlib.Omega.{arith}
use lib.Dec.{lit<, lit≤}
use Rattle.number.specs.Frac.{Frac, frac, Pos, le_f, neg_f, add_f, sub_f, mul_f}
use Rattle.number.proofs.Frac.{ring, le_trans_f, lt_le_f, add_f_pos, mul_f_pos, neg_f_pos}
use Rattle.series.specs.Sums.{nat_f, over_f, abs_f, eq_f, pow_f, factorial, scale_f}
use Rattle.series.specs.Exact.{ExpValue, exp_sum, exp_tail, middle, rest}
use Rattle.series.proofs.Constants.{mn, md}
use Rattle.exponential.proofs.Literal.{factorial_pos}
use Rattle.exponential.proofs.Bounds.{Bound, bound_eq, bound_up, exp_moves, sum_pos, pow_f_pos}
use Rattle.series.proofs.Fractions.{over_pos}
use Rattle.exponential.proofs.Position.{range_low, range_high}
use Rattle.exponential.proofs.Value.{sum_low, sum_high}

-- ---- the cut a - b is 0: ln 2 is m / q, q below 2 m
module _ (p n d m q a b : ℕ) (D : 0 < d) (Q : 0 < q) (less : q < 2 * m) where
  finish : (x y : ℕ) → 4 * x * m ≤ 2 * m + q + 4 * y * m → x ≤ y
  finish x y h = whole (lt_of_mul-lt-mul_right m (strict x y m q h less))
    where
      strict : (x y m q : ℕ) → 4 * x * m ≤ 2 * m + q + 4 * y * m → q < 2 * m → 4 * x * m < (4 + 4 * y) * m
      strict x y m q h k = lin (4 * x * m) (4 * y * m) ((4 + 4 * y) * m) m q (add-mul 4 (4 * y) m) h k
        where
          lin : (x y z m q : ℕ) → z ≡ 4 * m + y → x ≤ 2 * m + q + y → q < 2 * m → x < z
          lin x y z m q e h k = omega arith

      whole : 4 * x < 4 + 4 * y → x ≤ y
      whole h = omega arith

  zero_below : le_f (sub_f (frac p n d) (mul_f (frac a b 1) (frac m 0 q))) (over_f (frac m 0 q) 2) → le_f (neg_f (frac p n d)) (frac 1 0 4) → b ≤ a
  zero_below h k =
      let s = simp (ring, one-mul, mul-zero, zero-mul, add-zero, zero-add) at (mul-le-mul_right 2 h) in
      let t = simp (ring, one-mul, zero-mul, add-zero) at (mul-le-mul_right (q * q) k) in
      finish b a (le_of_mul-le-mul_right {k = d * q} (simp ring (omega arith)) (mul-pos D Q))

  zero_above : le_f (neg_f (over_f (frac m 0 q) 2)) (sub_f (frac p n d) (mul_f (frac a b 1) (frac m 0 q))) → le_f (frac p n d) (frac 1 0 4) → a ≤ b
  zero_above h k =
      let s = simp (ring, one-mul, mul-zero, zero-mul, add-zero, zero-add) at (mul-le-mul_right 2 h) in
      let t = simp (ring, one-mul, zero-mul, add-zero) at (mul-le-mul_right (q * q) k) in
      finish a b (le_of_mul-le-mul_right {k = d * q} (simp ring (omega arith)) (mul-pos D Q))

pub no_cut : (v : Frac) (a b : ℕ) → Pos v → Bound v (frac 1 0 4) → le_f (neg_f (over_f middle 2)) (sub_f v (mul_f (frac a b 1) middle)) → le_f (sub_f v (mul_f (frac a b 1) middle)) (over_f middle 2) → (a ≤ b) × (b ≤ a)
no_cut (frac p n d) a b P h l u = (
  zero_above p n d mn md a b P (lit< tt) (lit< tt) (range_low (frac p n d) (frac a b 1) P (lit< tt) l) h.0,
  zero_below p n d mn md a b P (lit< tt) (lit< tt) (range_high (frac p n d) (frac a b 1) P (lit< tt) u) h.1,
)

-- ---- the values then
module _ (v e l : Frac) (P : Pos v) (E : Pos e) (L : Pos l) (small : Bound v (frac 1 0 4)) (X Y h C : ℕ) (P₁ : 0 < C) (θ : Frac) (F : Pos θ) (room : le_f (add_f (mul_f (frac 0 0 1) (frac 36 0 25)) θ) (frac h 0 C)) (tail : le_f (exp_tail (sub_f v (mul_f (frac 0 0 1) l))) θ)
    (below : le_f (frac X 0 C) (exp_sum v)) (above : le_f (exp_sum v) (frac Y 0 C)) where
  abbrev t : Frac
  t = sub_f v (mul_f (frac 0 0 1) l)

  t_pos : Pos t
  t_pos = add_f_pos v (neg_f (mul_f (frac 0 0 1) l)) P (neg_f_pos (mul_f (frac 0 0 1) l) (mul_f_pos (frac 0 0 1) l (lit< tt) L))

  same : Bound (sub_f t v) (frac 0 0 1)
  same = go v l
    where
      go : (v l : Frac) → Bound (sub_f (sub_f v (mul_f (frac 0 0 1) l)) v) (frac 0 0 1)
      go (frac p n d) (frac q m c) = (nums p n d q m c, turn p n d q m c)
        where
          nums : (p n d q m c : ℕ) → le_f (sub_f (sub_f (frac p n d) (mul_f (frac 0 0 1) (frac q m c))) (frac p n d)) (frac 0 0 1)
          nums p n d q m c = simp (ring, one-mul, mul-one, mul-zero, zero-mul, add-zero, zero-add) (omega arith)

          turn : (p n d q m c : ℕ) → le_f (neg_f (sub_f (sub_f (frac p n d) (mul_f (frac 0 0 1) (frac q m c))) (frac p n d))) (frac 0 0 1)
          turn p n d q m c = simp (ring, one-mul, mul-one, mul-zero, zero-mul, add-zero, zero-add) (omega arith)

  t_is : eq_f t v
  t_is = go v l
    where
      go : (v l : Frac) → eq_f (sub_f v (mul_f (frac 0 0 1) l)) v
      go (frac p n d) (frac q m c) = (nums p n d q m c, turn p n d q m c)
        where
          nums : (p n d q m c : ℕ) → le_f (sub_f (frac p n d) (mul_f (frac 0 0 1) (frac q m c))) (frac p n d)
          nums p n d q m c = simp (ring, one-mul, mul-one, mul-zero, zero-mul, add-zero, zero-add) (omega arith)

          turn : (p n d q m c : ℕ) → le_f (frac p n d) (sub_f (frac p n d) (mul_f (frac 0 0 1) (frac q m c)))
          turn p n d q m c = simp (ring, one-mul, mul-one, mul-zero, zero-mul, add-zero, zero-add) (omega arith)

  v_size : Bound v (frac 9 0 25)
  v_size = bound_up v (frac 1 0 4) (frac 9 0 25) (lit< tt) (lit≤ tt) small

  t_size : Bound t (frac 9 0 25)
  t_size = bound_eq v t (frac 9 0 25) P t_is v_size

  moved : Bound (sub_f (exp_sum t) (exp_sum v)) (mul_f (frac 0 0 1) (frac 36 0 25))
  moved = exp_moves t v 0 1 t_pos P (lit< tt) t_size v_size same

  sum_at : (x : Frac) → Pos x → Pos (exp_sum x)
  unfolding exp_sum
  sum_at x X₁ = sum_pos x X₁ 30

  tail_at : (x : Frac) → Pos x → Pos (exp_tail x)
  unfolding exp_tail
  tail_at (frac p n d) X₁ = over_pos (mul_f (nat_f 2) (pow_f (abs_f (frac p n d)) 30)) (factorial 30) (mul_f_pos (nat_f 2) (pow_f (abs_f (frac p n d)) 30) (lit< tt) (pow_f_pos (abs_f (frac p n d)) X₁ 30)) (factorial_pos 30)

  pub value_low : le_f (sub_f (exp_sum t) (exp_tail t)) e → le_f (frac X h C) e
  value_low k =
      le_trans_f (frac X h C) (sub_f (exp_sum t) (exp_tail t)) e (add_f_pos (exp_sum t) (neg_f (exp_tail t)) (sum_at t t_pos) (neg_f_pos (exp_tail t) (tail_at t t_pos)))
      (sum_low (exp_sum v) (exp_sum t) (exp_tail t) (mul_f (frac 0 0 1) (frac 36 0 25)) X Y h C (sum_at v P) (sum_at t t_pos) (tail_at t t_pos) (lit< tt) P₁ θ F moved tail room below) k

  pub value_high : le_f e (add_f (exp_sum t) (exp_tail t)) → le_f e (frac (Y + h) 0 C)
  value_high k =
      le_trans_f e (add_f (exp_sum t) (exp_tail t)) (frac (Y + h) 0 C) (add_f_pos (exp_sum t) (exp_tail t) (sum_at t t_pos) (tail_at t t_pos)) k
      (sum_high (exp_sum v) (exp_sum t) (exp_tail t) (mul_f (frac 0 0 1) (frac 36 0 25)) X Y h C (sum_at v P) (sum_at t t_pos) (tail_at t t_pos) (lit< tt) P₁ θ F moved tail room above)

-- times 2 ^ 0
pub unscaled : (neg : Bool) (y : Frac) → eq_f (scale_f neg 0 y) y
unscaled false (frac p n d) = (one p n d, two p n d)
  where
    one : (p n d : ℕ) → le_f (mul_f (nat_f 1) (frac p n d)) (frac p n d)
    one p n d = simp (one-mul, zero-mul, add-zero) (omega arith)

    two : (p n d : ℕ) → le_f (frac p n d) (mul_f (nat_f 1) (frac p n d))
    two p n d = simp (one-mul, zero-mul, add-zero) (omega arith)
unscaled true (frac p n d) = (one p n d, two p n d)
  where
    one : (p n d : ℕ) → le_f (frac p n (d * 1)) (frac p n d)
    one p n d = simp mul-one (omega arith)

    two : (p n d : ℕ) → le_f (frac p n d) (frac p n (d * 1))
    two p n d = simp mul-one (omega arith)

pub scale_pos : (neg : Bool) (y : Frac) → Pos y → Pos (scale_f neg 0 y)
scale_pos false (frac p n d) P = mul-pos (lit< tt) P
scale_pos true (frac p n d) P = mul-pos P (lit< tt)

module _ (v e : Frac) (P : Pos v) (small : Bound v (frac 1 0 4)) (X Y h C : ℕ) (P₁ : 0 < C) (θ : Frac) (F : Pos θ) (room : le_f (add_f (mul_f (frac 0 0 1) (frac 36 0 25)) θ) (frac h 0 C)) (tails : (l : Frac) → Pos l → le_f (exp_tail (sub_f v (mul_f (frac 0 0 1) l))) θ)
    (below : le_f (frac X 0 C) (exp_sum v)) (above : le_f (exp_sum v) (frac Y 0 C)) where
  uncut : (neg : Bool) (k : ℕ) → le_f (neg_f (over_f middle 2)) (rest v neg k middle) → le_f (rest v neg k middle) (over_f middle 2) → k ≡ 0
  uncut false k l u = none k (no_cut v k 0 P small l u).0
    where
      none : (k : ℕ) → k ≤ 0 → k ≡ 0
      none k h = omega arith
  uncut true k l u = none k (no_cut v 0 k P small l u).1
    where
      none : (k : ℕ) → k ≤ 0 → k ≡ 0
      none k h = omega arith

  at_sign : (neg : Bool) (l : Frac) → Pos e → Pos l → le_f (scale_f neg 0 (sub_f (exp_sum (rest v neg 0 l)) (exp_tail (rest v neg 0 l)))) e → le_f e (scale_f neg 0 (add_f (exp_sum (rest v neg 0 l)) (exp_tail (rest v neg 0 l))))
      → le_f (frac X h C) e × le_f e (frac (Y + h) 0 C)
  at_sign false l E L low high =
      let t = sub_f v (mul_f (frac 0 0 1) l) in
      let y = sub_f (exp_sum t) (exp_tail t) in
      let z = add_f (exp_sum t) (exp_tail t) in
      let sp = sum_at v e l P E L small X Y h C P₁ θ F room (tails l L) below above t (t_pos v e l P E L small X Y h C P₁ θ F room (tails l L) below above) in
      let tp = tail_at v e l P E L small X Y h C P₁ θ F room (tails l L) below above t (t_pos v e l P E L small X Y h C P₁ θ F room (tails l L) below above) in (
        value_low v e l P E L small X Y h C P₁ θ F room (tails l L) below above (le_trans_f y (scale_f false 0 y) e (scale_pos false y (add_f_pos (exp_sum t) (neg_f (exp_tail t)) sp (neg_f_pos (exp_tail t) tp))) (unscaled false y).1 low),
        value_high v e l P E L small X Y h C P₁ θ F room (tails l L) below above (le_trans_f e (scale_f false 0 z) z (scale_pos false z (add_f_pos (exp_sum t) (exp_tail t) sp tp)) high (unscaled false z).0),
      )
  at_sign true l E L low high =
      let t = sub_f v (mul_f (frac 0 0 1) l) in
      let y = sub_f (exp_sum t) (exp_tail t) in
      let z = add_f (exp_sum t) (exp_tail t) in
      let sp = sum_at v e l P E L small X Y h C P₁ θ F room (tails l L) below above t (t_pos v e l P E L small X Y h C P₁ θ F room (tails l L) below above) in
      let tp = tail_at v e l P E L small X Y h C P₁ θ F room (tails l L) below above t (t_pos v e l P E L small X Y h C P₁ θ F room (tails l L) below above) in (
        value_low v e l P E L small X Y h C P₁ θ F room (tails l L) below above (le_trans_f y (scale_f true 0 y) e (scale_pos true y (add_f_pos (exp_sum t) (neg_f (exp_tail t)) sp (neg_f_pos (exp_tail t) tp))) (unscaled true y).1 low),
        value_high v e l P E L small X Y h C P₁ θ F room (tails l L) below above (le_trans_f e (scale_f true 0 z) z (scale_pos true z (add_f_pos (exp_sum t) (exp_tail t) sp tp)) high (unscaled true z).0),
      )

  -- the sum from X / C to Y / C: exp v from (X - h) / C to (Y + h) / C
  pub at_zero : ExpValue v e → le_f (frac X h C) e × le_f e (frac (Y + h) 0 C)
  at_zero x =
      let k0 = uncut x.neg x.k x.range.0 (lt_le_f (rest v x.neg x.k middle) (over_f middle 2) x.range.1) in
      at_sign x.neg x.l x.proper.0 x.proper.1
      (subst (λ (k : ℕ). le_f (scale_f x.neg k (sub_f (exp_sum (rest v x.neg k x.l)) (exp_tail (rest v x.neg k x.l)))) e) k0 x.low)
      (subst (λ (k : ℕ). le_f e (scale_f x.neg k (add_f (exp_sum (rest v x.neg k x.l)) (exp_tail (rest v x.neg k x.l))))) k0 x.high)

-- t = v, for the tail
pub same_size : (v l : Frac) (q c : ℕ) → Pos v → Bound v (frac q 0 c) → Bound (sub_f v (mul_f (frac 0 0 1) l)) (frac q 0 c)
same_size (frac p n d) (frac lp ln ld) q c P h = bound_eq (frac p n d) (sub_f (frac p n d) (mul_f (frac 0 0 1) (frac lp ln ld))) (frac q 0 c) P (nums p n d lp ln ld, turn p n d lp ln ld) h
  where
    nums : (p n d q m c : ℕ) → le_f (sub_f (frac p n d) (mul_f (frac 0 0 1) (frac q m c))) (frac p n d)
    nums p n d q m c = simp (ring, one-mul, mul-one, mul-zero, zero-mul, add-zero, zero-add) (omega arith)

    turn : (p n d q m c : ℕ) → le_f (frac p n d) (sub_f (frac p n d) (mul_f (frac 0 0 1) (frac q m c)))
    turn p n d q m c = simp (ring, one-mul, mul-one, mul-zero, zero-mul, add-zero, zero-add) (omega arith)

pub rest_pos : (v l : Frac) → Pos v → Pos l → Pos (sub_f v (mul_f (frac 0 0 1) l))
rest_pos v l P L = add_f_pos v (neg_f (mul_f (frac 0 0 1) l)) P (neg_f_pos (mul_f (frac 0 0 1) l) (mul_f_pos (frac 0 0 1) l (lit< tt) L))
