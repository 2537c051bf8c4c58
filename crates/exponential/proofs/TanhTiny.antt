-- tanh of a tiny argument is the argument: within 2 ^ -48 of every value of document 01's bracket for a size below 2 ^ -17. Assumes nothing.
use mathlib.Core.Path.{◌≡◌, sym, ap, subst}
use mathlib.Core.Bool.{Bool, true, false}
use Prim.Native.Nat.{ℕ, zero, suc, ◌+◌, ◌-◌, ◌*◌, ◌^◌, ◌≤◌, ◌<◌}
use native.Mathlib.Nat.{mul-zero, zero-mul, one-mul, mul-one, add-zero, zero-add, le_trans, le_of_eq, le_dest, mul-pos, mul-le-mul, mul-le-mul_right, le_of_mul-le-mul_right}
use native.Mathlib.Omega.{arith}
use lib.Dec.{lit<, lit≤}
use Rattle.number.specs.Frac.{Frac, frac, Pos, le_f, neg_f, add_f, sub_f, mul_f, div_f, zero_f, sgn}
use Rattle.number.proofs.Frac.{ring, le_trans_f, le_refl_f, add_mono_f, add_f_pos}
use Rattle.series.specs.Sums.{nat_f, over_f, eq_f, pow_f, sum_f, factorial}
use Rattle.series.specs.Exact.{ExpValue, TanhValue, exp_term, exp_sum, exp_tail}
use Rattle.series.specs.Distance.{near}
use Rattle.series.proofs.Constants.{leb→le_f}
use Rattle.exponential.proofs.Bounds.{Bound, bound_eq, bound_up, bound_add, bound_power, sub_pos, term_pos, sum_pos}
use Rattle.series.proofs.Fractions.{over_mono}
use Rattle.exponential.proofs.Value.{tail_le}
use Rattle.exponential.proofs.AtZero.{at_zero, same_size, rest_pos}
use Rattle.exponential.proofs.Tiny.{split}
use Rattle.exponential.proofs.TinyNear.{moved, moved_back}
use Rattle.exponential.proofs.TanhNear.{near_of, value_is, some_of, positive}

-- ---- the terms of exp's sum from v ^ 3 / 6 on, |v| at most m
abbrev later : Frac → ℕ → Frac
later m i = exp_term m (suc (suc (suc i)))

module _ (v m : Frac) (P : Pos v) (M : Pos m) (h : Bound v m) where
  term_le : (i : ℕ) → Bound (exp_term v i) (exp_term m i)
  term_le i = go (pow_f v i) (pow_f m i) (factorial i) (bound_power v m h i)
    where
      go : (x b : Frac) (k : ℕ) → Bound x b → Bound (over_f x k) (over_f b k)
      go (frac p n d) b k h = (over_mono (frac p n d) b k h.0, over_mono (frac n p d) b k h.1)

  -- the sum of k + 3 terms less the first three
  rest_le : (k : ℕ) → Bound (sub_f (sum_f (suc (suc (suc k))) (exp_term v)) (sum_f 3 (exp_term v))) (sum_f k (later m))
  unfolding sum_f
  rest_le zero = none (sum_f 3 (exp_term v))
    where
      none : (s : Frac) → Bound (sub_f s s) zero_f
      none (frac p n d) = (one p n d, two p n d)
        where
          one : (p n d : ℕ) → le_f (sub_f (frac p n d) (frac p n d)) zero_f
          one p n d = simp (ring, mul-one, zero-mul, add-zero, zero-add) (omega arith)

          two : (p n d : ℕ) → le_f (neg_f (sub_f (frac p n d) (frac p n d))) zero_f
          two p n d = simp (ring, mul-one, zero-mul, add-zero, zero-add) (omega arith)
  rest_le (suc k) =
      let s = sum_f (suc (suc (suc k))) (exp_term v) in
      let t = exp_term v (suc (suc (suc k))) in
      let u = sum_f 3 (exp_term v) in
      bound_eq (add_f (sub_f s u) t) (sub_f (add_f s t) u) (add_f (sum_f k (later m)) (later m k)) (add_f_pos (sub_f s u) t (sub_pos s u (sum_pos v P (suc (suc (suc k)))) (sum_pos v P 3)) (term_pos v P (suc (suc (suc k))))) (split s t u)
      (bound_add (sub_f s u) t (sum_f k (later m)) (later m k) (rest_le k) (term_le (suc (suc (suc k)))))

  later_pos : (k : ℕ) → Pos (sum_f k (later m))
  unfolding sum_f
  later_pos zero = lit< tt
  later_pos (suc k) = add_f_pos (sum_f k (later m)) (later m k) (later_pos k) (term_pos m M (suc (suc (suc k))))

later_small : le_f (sum_f 27 (later (frac 1 0 (2 ^ 16)))) (frac 1 0 (2 ^ 50))
unfolding sum_f pow_f factorial
later_small = leb→le_f (sum_f 27 (later (frac 1 0 (2 ^ 16)))) (frac 1 0 (2 ^ 50)) tt

sum_near : (v : Frac) → Pos v → Bound v (frac 1 0 (2 ^ 16)) → Bound (sub_f (exp_sum v) (sum_f 3 (exp_term v))) (frac 1 0 (2 ^ 50))
unfolding exp_sum
sum_near v P h = bound_up (sub_f (sum_f 30 (exp_term v)) (sum_f 3 (exp_term v))) (sum_f 27 (later (frac 1 0 (2 ^ 16)))) (frac 1 0 (2 ^ 50)) (later_pos v (frac 1 0 (2 ^ 16)) P (lit< tt) h 27) later_small (rest_le v (frac 1 0 (2 ^ 16)) P (lit< tt) h 27)

-- ---- the first three terms are K / d ^ 2: e = P / c is within 2 ^ -49 of it
module _ (v : Frac) (K d X : ℕ) (P : Pos v) (D : 0 < d) (small : Bound v (frac 1 0 (2 ^ 16))) (three : eq_f (sum_f 3 (exp_term v)) (frac K 0 (d * d))) (back : X + d * d ≡ K * 2 ^ 50) where
  abbrev part : Frac
  part = frac 1 0 (2 ^ 50)

  sum_pos_at : Pos (exp_sum v)
  unfolding exp_sum
  sum_pos_at = sum_pos v P 30

  above : le_f (exp_sum v) (frac (K * 2 ^ 50 + d * d) 0 (d * d * 2 ^ 50))
  above =
      le_trans_f (exp_sum v) (add_f (frac K 0 (d * d)) part) (frac (K * 2 ^ 50 + d * d) 0 (d * d * 2 ^ 50)) (mul-pos (mul-pos D D) (lit< tt))
      (le_trans_f (exp_sum v) (add_f (sum_f 3 (exp_term v)) part) (add_f (frac K 0 (d * d)) part) (add_f_pos (sum_f 3 (exp_term v)) part (sum_pos v P 3) (lit< tt)) (moved (exp_sum v) (sum_f 3 (exp_term v)) part (sum_pos v P 3) (sum_near v P small).0) (add_mono_f (sum_f 3 (exp_term v)) (frac K 0 (d * d)) part part three.0 (le_refl_f part)))
      (same K (d * d))
    where
      same : (K Q : ℕ) → le_f (add_f (frac K 0 Q) (frac 1 0 (2 ^ 50))) (frac (K * 2 ^ 50 + Q) 0 (Q * 2 ^ 50))
      same K Q = simp (ring, one-mul, zero-mul, add-zero, zero-add) (omega arith)

  below : le_f (frac X 0 (d * d * 2 ^ 50)) (exp_sum v)
  below = go K X (d * d) (exp_sum v) back (le_trans_f (frac K 0 (d * d)) (sum_f 3 (exp_term v)) (add_f (exp_sum v) part) (sum_pos v P 3) three.1 (moved_back (exp_sum v) (sum_f 3 (exp_term v)) part sum_pos_at (sum_near v P small).1))
    where
      nums : (K X Q a b c : ℕ) → (X + Q) * c ≡ K * 2 ^ 50 * c → le_f (frac K 0 Q) (add_f (frac a b c) (frac 1 0 (2 ^ 50))) → le_f (frac X 0 (Q * 2 ^ 50)) (frac a b c)
      nums K X Q a b c e h =
          let e' = simp ring at e in
          let h' = simp (ring, one-mul, zero-mul, add-zero, zero-add) at h in
          simp (ring, zero-mul, add-zero, zero-add) (omega arith)

      go : (K X Q : ℕ) (s : Frac) → X + Q ≡ K * 2 ^ 50 → le_f (frac K 0 Q) (add_f s (frac 1 0 (2 ^ 50))) → le_f (frac X 0 (Q * 2 ^ 50)) s
      go K X Q (frac a b c) e h = nums K X Q a b c (ap (λ (x : ℕ). x * c) e) h

  bracket : (e : Frac) → ExpValue v e → le_f (frac X (d * d) (d * d * 2 ^ 50)) e × le_f e (frac (K * 2 ^ 50 + d * d + d * d) 0 (d * d * 2 ^ 50))
  bracket e =
      at_zero v e P (bound_up v (frac 1 0 (2 ^ 16)) (frac 1 0 4) (lit< tt) (lit≤ tt) small) X (K * 2 ^ 50 + d * d) (d * d) (d * d * 2 ^ 50) (mul-pos (mul-pos D D) (lit< tt)) (frac 1 0 (2 ^ 60)) (lit< tt) (room (d * d))
      (λ (l : Frac) (L : Pos l). le_trans_f (exp_tail (sub_f v (mul_f (frac 0 0 1) l))) (frac 1 0 (2 ^ 130)) (frac 1 0 (2 ^ 60)) (lit< tt) (tail_le (sub_f v (mul_f (frac 0 0 1) l)) (rest_pos v l P L) (same_size v l 9 25 P (bound_up v (frac 1 0 (2 ^ 16)) (frac 9 0 25) (lit< tt) (lit≤ tt) small))) (lit≤ tt)) below above
    where
      room : (Q : ℕ) → le_f (add_f (mul_f (frac 0 0 1) (frac 36 0 25)) (frac 1 0 (2 ^ 60))) (frac Q 0 (Q * 2 ^ 50))
      room Q = omega arith

-- ---- on plain numbers: a and b are d - m and d + m for v = 2 m / d, the other way round for v = - 2 m / d
-- K a is d ^ 2 b but for 2 m ^ 3
third : (m d : ℕ) → 2 ^ 17 * m ≤ d → 2 ^ 50 * (2 * (m * (m * m))) ≤ d * (d * d)
third m d h = le_trans (le_of_eq (cube m)) (mul-le-mul h (mul-le-mul h h))
  where
    cube : (m : ℕ) → 2 ^ 50 * (2 * (m * (m * m))) ≡ 2 ^ 17 * m * (2 ^ 17 * m * (2 ^ 17 * m))
    cube m = simp ring (omega arith)

module _ (m d K a b P c : ℕ) (D : 0 < d) (tiny : 2 ^ 17 * m ≤ d) (less : 4 * a ≤ 5 * d) (k₀ : K * a ≤ d * d * b + 2 * (m * (m * m))) (k₁ : d * d * b ≤ K * a + 2 * (m * (m * m)))
    (e₀ : K * 2 ^ 50 * c ≤ P * (d * d * 2 ^ 50) + 2 * (d * d) * c) (e₁ : P * (d * d * 2 ^ 50) ≤ K * 2 ^ 50 * c + 2 * (d * d) * c) where
  square : 0 < d * d
  square = mul-pos D D

  sides_up : 2 ^ 48 * (P * a) ≤ 2 ^ 48 * (c * b) + d * (P + c)
  sides_up = le_of_mul-le-mul_right {k = d * d} (go m d K a b P c (mul-le-mul_right c (third m d tiny)) (mul-le-mul_right (d * d * c) less) (mul-le-mul_right c k₀) (mul-le-mul_right a e₁)) square
    where
      go : (m d K a b P c : ℕ) → 2 ^ 50 * (2 * (m * (m * m))) * c ≤ d * (d * d) * c → 4 * a * (d * d * c) ≤ 5 * d * (d * d * c) → K * a * c ≤ (d * d * b + 2 * (m * (m * m))) * c → P * (d * d * 2 ^ 50) * a ≤ (K * 2 ^ 50 * c + 2 * (d * d) * c) * a
          → 2 ^ 48 * (P * a) * (d * d) ≤ (2 ^ 48 * (c * b) + d * (P + c)) * (d * d)
      go m d K a b P c t l k e =
          let t' = simp ring at t in
          let l' = simp ring at l in
          let k' = simp ring at k in
          let e' = simp ring at e in
          simp ring (omega arith)

  sides_down : 2 ^ 48 * (c * b) ≤ 2 ^ 48 * (P * a) + d * (P + c)
  sides_down = le_of_mul-le-mul_right {k = d * d} (go m d K a b P c (mul-le-mul_right c (third m d tiny)) (mul-le-mul_right (d * d * c) less) (mul-le-mul_right c k₁) (mul-le-mul_right a e₀)) square
    where
      go : (m d K a b P c : ℕ) → 2 ^ 50 * (2 * (m * (m * m))) * c ≤ d * (d * d) * c → 4 * a * (d * d * c) ≤ 5 * d * (d * d * c) → d * d * b * c ≤ (K * a + 2 * (m * (m * m))) * c → K * 2 ^ 50 * c * a ≤ (P * (d * d * 2 ^ 50) + 2 * (d * d) * c) * a
          → 2 ^ 48 * (c * b) * (d * d) ≤ (2 ^ 48 * (P * a) + d * (P + c)) * (d * d)
      go m d K a b P c t l k e =
          let t' = simp ring at t in
          let l' = simp ring at l in
          let k' = simp ring at k in
          let e' = simp ring at e in
          simp ring (omega arith)

-- ---- as fractions
plus_bound : (a m P c : ℕ) → 2 ^ 48 * (P * a) ≤ 2 ^ 48 * (c * (a + 2 * m)) + (a + m) * (P + c) → 2 ^ 48 * (c * (a + 2 * m)) ≤ 2 ^ 48 * (P * a) + (a + m) * (P + c) → Bound (sub_f (frac m 0 (a + m)) (frac P c (P + c))) (frac 1 0 (2 ^ 48))
plus_bound a m P c h k = (one a m P c k, two a m P c h)
  where
    one : (a m P c : ℕ) → 2 ^ 48 * (c * (a + 2 * m)) ≤ 2 ^ 48 * (P * a) + (a + m) * (P + c) → le_f (sub_f (frac m 0 (a + m)) (frac P c (P + c))) (frac 1 0 (2 ^ 48))
    one a m P c h = let k = simp ring at h in simp (ring, one-mul, zero-mul, add-zero, zero-add) (omega arith)

    two : (a m P c : ℕ) → 2 ^ 48 * (P * a) ≤ 2 ^ 48 * (c * (a + 2 * m)) + (a + m) * (P + c) → le_f (neg_f (sub_f (frac m 0 (a + m)) (frac P c (P + c)))) (frac 1 0 (2 ^ 48))
    two a m P c h = let k = simp ring at h in simp (ring, one-mul, zero-mul, add-zero, zero-add) (omega arith)

minus_bound : (b m P c : ℕ) → 2 ^ 48 * (P * (b + 2 * m)) ≤ 2 ^ 48 * (c * b) + (b + m) * (P + c) → 2 ^ 48 * (c * b) ≤ 2 ^ 48 * (P * (b + 2 * m)) + (b + m) * (P + c) → Bound (sub_f (frac 0 m (b + m)) (frac P c (P + c))) (frac 1 0 (2 ^ 48))
minus_bound b m P c h k = (one b m P c k, two b m P c h)
  where
    one : (b m P c : ℕ) → 2 ^ 48 * (c * b) ≤ 2 ^ 48 * (P * (b + 2 * m)) + (b + m) * (P + c) → le_f (sub_f (frac 0 m (b + m)) (frac P c (P + c))) (frac 1 0 (2 ^ 48))
    one b m P c h = let k = simp ring at h in simp (ring, one-mul, zero-mul, add-zero, zero-add) (omega arith)

    two : (b m P c : ℕ) → 2 ^ 48 * (P * (b + 2 * m)) ≤ 2 ^ 48 * (c * b) + (b + m) * (P + c) → le_f (neg_f (sub_f (frac 0 m (b + m)) (frac P c (P + c)))) (frac 1 0 (2 ^ 48))
    two b m P c h = let k = simp ring at h in simp (ring, one-mul, zero-mul, add-zero, zero-add) (omega arith)

-- what the sides' law needs of e = P / c
sides : (K d X n P c : ℕ) → X + d * d ≡ K * 2 ^ 50 → le_f (frac X (d * d) (d * d * 2 ^ 50)) (frac (n + P) n c) → le_f (frac (n + P) n c) (frac (K * 2 ^ 50 + d * d + d * d) 0 (d * d * 2 ^ 50))
    → (K * 2 ^ 50 * c ≤ P * (d * d * 2 ^ 50) + 2 * (d * d) * c) × (P * (d * d * 2 ^ 50) ≤ K * 2 ^ 50 * c + 2 * (d * d) * c)
sides K d X n P c e l u = (one K (d * d) X n P c (ap (λ (x : ℕ). x * c) e) l, two K (d * d) n P c u)
  where
    one : (K Q X n P c : ℕ) → (X + Q) * c ≡ K * 2 ^ 50 * c → X * c + n * (Q * 2 ^ 50) ≤ (n + P) * (Q * 2 ^ 50) + Q * c → K * 2 ^ 50 * c ≤ P * (Q * 2 ^ 50) + 2 * Q * c
    one K Q X n P c e h =
        let e' = simp ring at e in
        let h' = simp ring at h in
        simp ring (omega arith)

    two : (K Q n P c : ℕ) → (n + P) * (Q * 2 ^ 50) + 0 * c ≤ (K * 2 ^ 50 + Q + Q) * c + n * (Q * 2 ^ 50) → P * (Q * 2 ^ 50) ≤ K * 2 ^ 50 * c + 2 * Q * c
    two K Q n P c h = let h' = simp (ring, zero-mul, add-zero) at h in simp ring (omega arith)

-- ---- for either sign: r = ± m / d, K = b ^ 2 + m ^ 2
module _ (r v : Frac) (m d a b : ℕ) (R : Pos r) (P₁ : Pos v) (D : 0 < d) (tiny : 2 ^ 17 * m ≤ d) (less : 4 * a ≤ 5 * d) (half : d ≤ 2 * b) (small : Bound v (frac 1 0 (2 ^ 16))) (three : eq_f (sum_f 3 (exp_term v)) (frac (b * b + m * m) 0 (d * d)))
    (k₀ : (b * b + m * m) * a ≤ d * d * b + 2 * (m * (m * m))) (k₁ : d * d * b ≤ (b * b + m * m) * a + 2 * (m * (m * m)))
    (bound : (P c : ℕ) → 2 ^ 48 * (P * a) ≤ 2 ^ 48 * (c * b) + d * (P + c) → 2 ^ 48 * (c * b) ≤ 2 ^ 48 * (P * a) + d * (P + c) → Bound (sub_f r (frac P c (P + c))) (frac 1 0 (2 ^ 48))) where
  abbrev K : ℕ
  K = b * b + m * m

  abbrev X : ℕ
  X = K * 2 ^ 50 - d * d

  enough : d * d + d * d ≤ K * 2 ^ 50
  enough = lin (d * d) (b * b) (m * m) (2 * b * (2 * b)) (mul-le-mul half half) (four b)
    where
      four : (b : ℕ) → 2 * b * (2 * b) ≡ 4 * (b * b)
      four b = simp ring (omega arith)

      lin : (d b m x : ℕ) → d ≤ x → x ≡ 4 * b → d + d ≤ (b + m) * 2 ^ 50
      lin d b m x h e = omega arith

  back : X + d * d ≡ K * 2 ^ 50
  back = go (K * 2 ^ 50) (d * d) enough
    where
      go : (k q : ℕ) → q + q ≤ k → k - q + q ≡ k
      go k q h = omega arith

  apart : d * d ≤ X
  apart = go (K * 2 ^ 50) (d * d) enough
    where
      go : (k q : ℕ) → q + q ≤ k → q ≤ k - q
      go k q h = omega arith

  of_value : (e x : Frac) → ExpValue v e → eq_f x (div_f (sub_f e (nat_f 1)) (add_f e (nat_f 1))) → near (2 ^ 48) r x
  of_value (frac p n c) x w s = go (le_dest (positive X (d * d) (d * d * 2 ^ 50) p n c apart (mul-pos (mul-pos D D) (lit< tt)) y.0))
    where
      y : le_f (frac X (d * d) (d * d * 2 ^ 50)) (frac p n c) × le_f (frac p n c) (frac (K * 2 ^ 50 + d * d + d * d) 0 (d * d * 2 ^ 50))
      y = bracket v K d X P₁ D small three back (frac p n c) w

      go : (P : ℕ) × (n + P ≡ p) → near (2 ^ 48) r x
      go (P, i) =
          let z = subst (λ (p : ℕ). le_f (frac X (d * d) (d * d * 2 ^ 50)) (frac p n c) × le_f (frac p n c) (frac (K * 2 ^ 50 + d * d + d * d) 0 (d * d * 2 ^ 50))) (sym i) y in
          let t = sides K d X n P c back z.0 z.1 in
          near_of r x r (frac P c (P + c)) R (some_of P c w.proper.0) (le_refl_f r, le_refl_f r) (value_is n P c x w.proper.0 (subst (λ (p : ℕ). eq_f x (div_f (sub_f (frac p n c) (nat_f 1)) (add_f (frac p n c) (nat_f 1)))) (sym i) s))
          (bound P c (sides_up m d K a b P c D tiny less k₀ k₁ t.0 t.1) (sides_down m d K a b P c D tiny less k₀ k₁ t.0 t.1))

-- the first three terms, d being a + m or b + m
three_plus : (a m : ℕ) → eq_f (sum_f 3 (exp_term (mul_f (nat_f 2) (frac m 0 (a + m))))) (frac ((a + 2 * m) * (a + 2 * m) + m * m) 0 ((a + m) * (a + m)))
unfolding sum_f pow_f factorial
three_plus a m = (simp (ring, one-mul, mul-one, mul-zero, zero-mul, add-zero, zero-add) (omega arith), simp (ring, one-mul, mul-one, mul-zero, zero-mul, add-zero, zero-add) (omega arith))

three_minus : (b m : ℕ) → eq_f (sum_f 3 (exp_term (mul_f (nat_f 2) (frac 0 m (b + m))))) (frac (b * b + m * m) 0 ((b + m) * (b + m)))
unfolding sum_f pow_f factorial
three_minus b m = (simp (ring, one-mul, mul-one, mul-zero, zero-mul, add-zero, zero-add) (omega arith), simp (ring, one-mul, mul-one, mul-zero, zero-mul, add-zero, zero-add) (omega arith))

-- the law: ± m / d, at most 2 ^ -17 in size, is within 2 ^ -48 of every value of its tanh
pub tiny_near : (s : Bool) (m d : ℕ) (x : Frac) → 0 < d → 2 ^ 17 * m ≤ d → TanhValue (sgn s m d) x → near (2 ^ 48) (sgn s m d) x
tiny_near s m d x D tiny v = at s (d - m) (back m d tiny) v
  where
    back : (m d : ℕ) → 2 ^ 17 * m ≤ d → d - m + m ≡ d
    back m d h = omega arith

    plus : (a : ℕ) → 0 < a + m → 2 ^ 17 * m ≤ a + m → TanhValue (frac m 0 (a + m)) x → near (2 ^ 48) (frac m 0 (a + m)) x
    plus a D t v =
        of_value (frac m 0 (a + m)) (mul_f (nat_f 2) (frac m 0 (a + m))) m (a + m) a (a + 2 * m) D (mul-pos (lit< tt) D) D t (less a m) (half a m) (small a m t, none a m) (three_plus a m) (k₀ a m) (k₁ a m) (λ (P : ℕ) (c : ℕ). plus_bound a m P c) v.e x v.is_exp v.same
      where
        less : (a m : ℕ) → 4 * a ≤ 5 * (a + m)
        less a m = omega arith

        half : (a m : ℕ) → a + m ≤ 2 * (a + 2 * m)
        half a m = omega arith

        small : (a m : ℕ) → 2 ^ 17 * m ≤ a + m → le_f (mul_f (nat_f 2) (frac m 0 (a + m))) (frac 1 0 (2 ^ 16))
        small a m h = omega arith

        none : (a m : ℕ) → le_f (neg_f (mul_f (nat_f 2) (frac m 0 (a + m)))) (frac 1 0 (2 ^ 16))
        none a m = omega arith

        k₀ : (a m : ℕ) → ((a + 2 * m) * (a + 2 * m) + m * m) * a ≤ (a + m) * (a + m) * (a + 2 * m) + 2 * (m * (m * m))
        k₀ a m = simp ring (omega arith)

        k₁ : (a m : ℕ) → (a + m) * (a + m) * (a + 2 * m) ≤ ((a + 2 * m) * (a + 2 * m) + m * m) * a + 2 * (m * (m * m))
        k₁ a m = simp ring (omega arith)

    minus : (b : ℕ) → 0 < b + m → 2 ^ 17 * m ≤ b + m → TanhValue (frac 0 m (b + m)) x → near (2 ^ 48) (frac 0 m (b + m)) x
    minus b D t v =
        of_value (frac 0 m (b + m)) (mul_f (nat_f 2) (frac 0 m (b + m))) m (b + m) (b + 2 * m) b D (mul-pos (lit< tt) D) D t (less b m t) (half b m t) (none b m, small b m t) (three_minus b m) (k₀ b m) (k₁ b m) (λ (P : ℕ) (c : ℕ). minus_bound b m P c) v.e x v.is_exp v.same
      where
        less : (b m : ℕ) → 2 ^ 17 * m ≤ b + m → 4 * (b + 2 * m) ≤ 5 * (b + m)
        less b m h = omega arith

        half : (b m : ℕ) → 2 ^ 17 * m ≤ b + m → b + m ≤ 2 * b
        half b m h = omega arith

        small : (b m : ℕ) → 2 ^ 17 * m ≤ b + m → le_f (neg_f (mul_f (nat_f 2) (frac 0 m (b + m)))) (frac 1 0 (2 ^ 16))
        small b m h = omega arith

        none : (b m : ℕ) → le_f (mul_f (nat_f 2) (frac 0 m (b + m))) (frac 1 0 (2 ^ 16))
        none b m = omega arith

        k₀ : (b m : ℕ) → (b * b + m * m) * (b + 2 * m) ≤ (b + m) * (b + m) * b + 2 * (m * (m * m))
        k₀ b m = simp ring (omega arith)

        k₁ : (b m : ℕ) → (b + m) * (b + m) * b ≤ (b * b + m * m) * (b + 2 * m) + 2 * (m * (m * m))
        k₁ b m = simp ring (omega arith)

    at : (s : Bool) (a : ℕ) → a + m ≡ d → TanhValue (sgn s m d) x → near (2 ^ 48) (sgn s m d) x
    at false a q v = subst (λ (d : ℕ). near (2 ^ 48) (frac m 0 d) x) q (plus a (subst (λ (d : ℕ). 0 < d) (sym q) D) (subst (λ (d : ℕ). 2 ^ 17 * m ≤ d) (sym q) tiny) (subst (λ (d : ℕ). TanhValue (frac m 0 d) x) (sym q) v))
    at true a q v = subst (λ (d : ℕ). near (2 ^ 48) (frac 0 m d) x) q (minus a (subst (λ (d : ℕ). 0 < d) (sym q) D) (subst (λ (d : ℕ). 2 ^ 17 * m ≤ d) (sym q) tiny) (subst (λ (d : ℕ). TanhValue (frac 0 m d) x) (sym q) v))
