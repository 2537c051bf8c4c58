-- exp v - 1 is nearly v for a tiny v: |exp v - 1 - v| is at most |v| / 2 ^ 52 for |v| at most 2 ^ -54, for every value of document 01's bracket. Assumes nothing.
use mathlib.Core.Path.{◌≡◌, refl, sym, subst}
use Prim.Native.Nat.{ℕ, zero, suc, ◌+◌, ◌*◌, ◌^◌, ◌≤◌, ◌<◌}
use native.Mathlib.Nat.{mul-zero, zero-mul, one-mul, mul-one, add-zero, zero-add, mul-le-mul_right}
use native.Mathlib.Omega.{arith}
use lib.Dec.{lit<, lit≤}
use Rattle.number.specs.Frac.{Frac, frac, Pos, le_f, neg_f, add_f, sub_f, mul_f, zero_f}
use Rattle.number.proofs.Frac.{ring, le_trans_f, add_f_pos, mul_f_pos}
use Rattle.series.specs.Sums.{nat_f, over_f, abs_f, eq_f, pow_f, sum_f, factorial}
use Rattle.series.specs.Exact.{exp_term, exp_sum, exp_tail}
use Rattle.series.proofs.Constants.{leb→le_f}
use Rattle.exponential.proofs.Literal.{factorial_pos}
use Rattle.exponential.proofs.Bounds.{Bound, bound_eq, bound_up, bound_add, bound_mul, bound_power, pow_f_pos, sub_pos, term_pos, sum_pos, together, scaled}
use Rattle.series.proofs.Fractions.{over_mono, over_pos}
use Rattle.exponential.proofs.Value.{abs_bound}

-- ---- the terms from v ^ 2 / 2 on, |v| at most a and at most m: at most a (m ^ 1 / 1! + m ^ 2 / 2! + ..)
abbrev later : Frac → ℕ → Frac
later m i = exp_term m (suc i)

-- a bound stays one after a division by more
over_bound : (z b : Frac) (f j : ℕ) → Bound z b → Bound (over_f z (f * (1 + j))) (over_f b f)
over_bound (frac p n d) (frac q m c) f j h = (one p n d q m c f j (mul-le-mul_right f h.0) (mul-le-mul_right (f * j) (sign p n d q m c h.0 h.1)), one n p d q m c f j (mul-le-mul_right f h.1) (mul-le-mul_right (f * j) (sign p n d q m c h.0 h.1)))
  where
    sign : (p n d q m c : ℕ) → p * c + m * d ≤ q * d + n * c → n * c + m * d ≤ q * d + p * c → m * d ≤ q * d
    sign p n d q m c h k = lin (p * c) (n * c) (m * d) (q * d) h k
      where
        lin : (p n m q : ℕ) → p + m ≤ q + n → n + m ≤ q + p → m ≤ q
        lin p n m q h k = omega arith

    one : (p n d q m c f j : ℕ) → (p * c + m * d) * f ≤ (q * d + n * c) * f → m * d * (f * j) ≤ q * d * (f * j) → p * (c * f) + m * (d * (f * (1 + j))) ≤ q * (d * (f * (1 + j))) + n * (c * f)
    one p n d q m c f j h k =
        let u = simp ring at h in
        let v = simp ring at k in
        simp (ring, one-mul, mul-one) (omega arith)

regroup : (q : Frac) (n d f : ℕ) → le_f (over_f (mul_f q (frac n 0 d)) f) (mul_f (frac n 0 d) (over_f q f))
regroup (frac p m c) n d f = go p m c n d f
  where
    go : (p m c n d f : ℕ) → le_f (over_f (mul_f (frac p m c) (frac n 0 d)) f) (mul_f (frac n 0 d) (over_f (frac p m c) f))
    go p m c n d f = simp (ring, mul-zero, zero-mul, add-zero, zero-add) (omega arith)

-- the sum less its first two terms, one term more
pub split : (s t u : Frac) → eq_f (sub_f (add_f s t) u) (add_f (sub_f s u) t)
split (frac p n d) (frac q m c) (frac a b e) = (one p n d q m c a b e, two p n d q m c a b e)
  where
    one : (p n d q m c a b e : ℕ) → le_f (sub_f (add_f (frac p n d) (frac q m c)) (frac a b e)) (add_f (sub_f (frac p n d) (frac a b e)) (frac q m c))
    one p n d q m c a b e = simp ring (omega arith)

    two : (p n d q m c a b e : ℕ) → le_f (add_f (sub_f (frac p n d) (frac a b e)) (frac q m c)) (sub_f (add_f (frac p n d) (frac q m c)) (frac a b e))
    two p n d q m c a b e = simp ring (omega arith)

module _ (v m : Frac) (n d : ℕ) (P : Pos v) (M₁ : Pos m) (D : 0 < d) (hm : Bound v m) (ha : Bound v (frac n 0 d)) where
  later_pos : (k : ℕ) → Pos (sum_f k (later m))
  unfolding sum_f
  later_pos zero = lit< tt
  later_pos (suc k) = add_f_pos (sum_f k (later m)) (later m k) (later_pos k) (term_pos m M₁ (suc k))

  -- v ^ (i + 2) / (i + 2)! is at most a m ^ (i + 1) / (i + 1)!
  term_le : (i : ℕ) → Bound (exp_term v (suc (suc i))) (mul_f (frac n 0 d) (later m i))
  unfolding pow_f factorial
  term_le i = go (pow_f v (suc i)) v (pow_f m (suc i)) (factorial (suc i)) (pow_f_pos m M₁ (suc i)) (factorial_pos (suc i)) (bound_mul (pow_f v (suc i)) v (pow_f m (suc i)) (frac n 0 d) (bound_power v m hm (suc i)) ha)
    where
      go : (x y q : Frac) (f : ℕ) → Pos q → 0 < f → Bound (mul_f x y) (mul_f q (frac n 0 d)) → Bound (over_f (mul_f x y) (f * suc (suc i))) (mul_f (frac n 0 d) (over_f q f))
      go x y q f Q F h = bound_up (over_f (mul_f x y) (f * suc (suc i))) (over_f (mul_f q (frac n 0 d)) f) (mul_f (frac n 0 d) (over_f q f)) (over_pos (mul_f q (frac n 0 d)) f (mul_f_pos q (frac n 0 d) Q D) F) (regroup q n d f) (subst (λ (k : ℕ). Bound (over_f (mul_f x y) (f * k)) (over_f (mul_f q (frac n 0 d)) f)) (count i) (over_bound (mul_f x y) (mul_f q (frac n 0 d)) f (suc i) h))
        where
          count : (i : ℕ) → 1 + suc i ≡ suc (suc i)
          count i = omega arith

  -- the sum of k + 2 terms less 1 and v
  rest_le : (k : ℕ) → Bound (sub_f (sum_f (suc (suc k)) (exp_term v)) (sum_f 2 (exp_term v))) (mul_f (frac n 0 d) (sum_f k (later m)))
  unfolding sum_f
  rest_le zero = none (sum_f 2 (exp_term v)) n d
    where
      none : (s : Frac) (n d : ℕ) → Bound (sub_f s s) (mul_f (frac n 0 d) zero_f)
      none (frac p m c) n d = (one p m c n d, two p m c n d)
        where
          one : (p m c n d : ℕ) → le_f (sub_f (frac p m c) (frac p m c)) (mul_f (frac n 0 d) zero_f)
          one p m c n d = simp (ring, mul-zero, zero-mul, add-zero, zero-add) (omega arith)

          two : (p m c n d : ℕ) → le_f (neg_f (sub_f (frac p m c) (frac p m c))) (mul_f (frac n 0 d) zero_f)
          two p m c n d = simp (ring, mul-zero, zero-mul, add-zero, zero-add) (omega arith)
  rest_le (suc k) =
      let s = sum_f (suc (suc k)) (exp_term v) in
      let t = exp_term v (suc (suc k)) in
      let u = sum_f 2 (exp_term v) in
      let a = frac n 0 d in
      let q = sum_f k (later m) in
      let r = later m k in
      bound_eq (add_f (sub_f s u) t) (sub_f (add_f s t) u) (mul_f a (add_f q r)) (add_f_pos (sub_f s u) t (sub_pos s u (sum_pos v P (suc (suc k))) (sum_pos v P 2)) (term_pos v P (suc (suc k)))) (split s t u)
      (bound_up (add_f (sub_f s u) t) (add_f (mul_f a q) (mul_f a r)) (mul_f a (add_f q r)) (add_f_pos (mul_f a q) (mul_f a r) (mul_f_pos a q D (later_pos k)) (mul_f_pos a r D (term_pos m M₁ (suc k)))) (together a q r)
      (bound_add (sub_f s u) t (mul_f a q) (mul_f a r) (rest_le k) (term_le k)))

-- ---- at m = 2 ^ -54
later_small : le_f (sum_f 28 (later (frac 1 0 (2 ^ 54)))) (frac 1 0 (2 ^ 53))
unfolding sum_f pow_f factorial
later_small = leb→le_f (sum_f 28 (later (frac 1 0 (2 ^ 54)))) (frac 1 0 (2 ^ 53)) tt

pub first_two : (v : Frac) → eq_f (sum_f 2 (exp_term v)) (add_f (nat_f 1) v)
unfolding sum_f pow_f factorial
first_two (frac p n d) = (one p n d, two p n d)
  where
    one : (p n d : ℕ) → le_f (add_f (add_f zero_f (frac 1 0 1)) (over_f (mul_f (nat_f 1) (frac p n d)) 1)) (add_f (nat_f 1) (frac p n d))
    one p n d = simp (one-mul, mul-one, zero-mul, add-zero, zero-add) (omega arith)

    two : (p n d : ℕ) → le_f (add_f (nat_f 1) (frac p n d)) (add_f (add_f zero_f (frac 1 0 1)) (over_f (mul_f (nat_f 1) (frac p n d)) 1))
    two p n d = simp (one-mul, mul-one, zero-mul, add-zero, zero-add) (omega arith)

-- ---- the tail, as a part of |t|
tail_nums : (P Q F E n d : ℕ) → 2 * P * E ≤ Q * F → le_f (over_f (mul_f (nat_f 2) (mul_f (frac P 0 Q) (frac n 0 d))) F) (frac n 0 (d * E))
tail_nums P Q F E n d h = go P Q F E n d (mul-le-mul_right (n * d) h)
  where
    go : (P Q F E n d : ℕ) → 2 * P * E * (n * d) ≤ Q * F * (n * d) → le_f (over_f (mul_f (nat_f 2) (mul_f (frac P 0 Q) (frac n 0 d))) F) (frac n 0 (d * E))
    go P Q F E n d h = let k = simp ring at h in simp (ring, one-mul, mul-zero, zero-mul, add-zero, zero-add) (omega arith)

power_29 : pow_f (frac 9 0 25) 29 ≡ frac (9 ^ 29) 0 (25 ^ 29)
unfolding pow_f
power_29 = refl

factorial_30 : 2 * 9 ^ 29 * 2 ^ 60 ≤ 25 ^ 29 * factorial 30
unfolding factorial
factorial_30 = lit≤ tt

pub tail_part : (t : Frac) (n d : ℕ) → Pos t → 0 < d → Bound t (frac 9 0 25) → Bound t (frac n 0 d) → le_f (exp_tail t) (frac n 0 (d * 2 ^ 60))
unfolding exp_tail pow_f
tail_part (frac p m c) n d P D h k =
    let s = abs_f (frac p m c) in
    let b = mul_f (pow_f (frac 9 0 25) 29) (frac n 0 d) in
    le_trans_f (over_f (mul_f (nat_f 2) (mul_f (pow_f s 29) s)) (factorial 30)) (over_f (mul_f (nat_f 2) b) (factorial 30)) (frac n 0 (d * 2 ^ 60))
    (over_pos (mul_f (nat_f 2) b) (factorial 30) (mul_f_pos (nat_f 2) b (lit< tt) (mul_f_pos (pow_f (frac 9 0 25) 29) (frac n 0 d) (pow_f_pos (frac 9 0 25) (lit< tt) 29) D)) (factorial_pos 30))
    (over_mono (mul_f (nat_f 2) (mul_f (pow_f s 29) s)) (mul_f (nat_f 2) b) (factorial 30) (scaled 2 1 (mul_f (pow_f s 29) s) b (bound_mul (pow_f s 29) s (pow_f (frac 9 0 25) 29) (frac n 0 d) (bound_power s (frac 9 0 25) (abs_bound (frac p m c) 9 25 h) 29) (abs_bound (frac p m c) n d k)).0))
    (subst (λ (x : Frac). le_f (over_f (mul_f (nat_f 2) (mul_f x (frac n 0 d))) (factorial 30)) (frac n 0 (d * 2 ^ 60))) (sym power_29) (tail_nums (9 ^ 29) (25 ^ 29) (factorial 30) (2 ^ 60) n d factorial_30))

-- ---- the sum against 1 + v
pub sum_near : (v : Frac) (n d : ℕ) → Pos v → 0 < d → Bound v (frac 1 0 (2 ^ 54)) → Bound v (frac n 0 d) → Bound (sub_f (exp_sum v) (sum_f 2 (exp_term v))) (mul_f (frac n 0 d) (frac 1 0 (2 ^ 53)))
unfolding exp_sum
sum_near v n d P D hm ha =
    bound_up (sub_f (sum_f 30 (exp_term v)) (sum_f 2 (exp_term v))) (mul_f (frac n 0 d) (sum_f 28 (later (frac 1 0 (2 ^ 54))))) (mul_f (frac n 0 d) (frac 1 0 (2 ^ 53))) (mul_f_pos (frac n 0 d) (sum_f 28 (later (frac 1 0 (2 ^ 54)))) D (later_pos v (frac 1 0 (2 ^ 54)) n d P (lit< tt) D hm ha 28))
    (scaled n d (sum_f 28 (later (frac 1 0 (2 ^ 54)))) (frac 1 0 (2 ^ 53)) later_small)
    (rest_le v (frac 1 0 (2 ^ 54)) n d P (lit< tt) D hm ha 28)
