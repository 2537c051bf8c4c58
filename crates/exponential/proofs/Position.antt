-- Where document 01 cuts the argument: v near (w / 2 ^ 53 - 1023) ln 2 is cut at the whole number below w / 2 ^ 53 or at the next one. Assumes nothing.
use mathlib.Core.Path.{◌≡◌}
use mathlib.Core.Logic.{◌⊎◌, inl, inr}
use Prim.Native.Nat.{ℕ, ◌+◌, ◌*◌, ◌/◌, ◌%◌, ◌^◌, ◌≤◌, ◌<◌}
use native.Mathlib.Nat.{mul-zero, zero-mul, one-mul, add-zero, zero-add, lt_of_not-le, mul-pos, mul-le-mul_right, le_of_mul-le-mul_right}
use native.Mathlib.Decide.{dec_le}
use native.Mathlib.Omega.{arith}
use lib.Dec.{lit<, lit≤}
use Rattle.number.specs.Frac.{Frac, frac, Pos, le_f, neg_f, sub_f, mul_f}
use Rattle.number.proofs.Frac.{ring, le_trans_f, le_refl_f, add_mono_f, neg_anti_f, add_f_pos, mul_f_pos, neg_f_pos}
use Rattle.series.specs.Sums.{over_f, eq_f, pow_f, sum_f}
use Rattle.series.specs.Exact.{middle, ln2_low, ln2_high, twice_odds, odd_tail}
use Rattle.series.proofs.Constants.{mn, md, middle_is}
use Rattle.series.proofs.Fractions.{over_mono, over_pos}
use Rattle.exponential.proofs.Bounds.{Bound}

-- ---- M by its short name
abbrev pub M : Frac
M = frac mn 0 md

-- products with equal factors
mul_eq_f : (x a b : Frac) → eq_f a b → le_f (mul_f x a) (mul_f x b)
mul_eq_f (frac x y z) (frac p n d) (frac q m c) h = go x y z p n d q m c (mul-le-mul_right (x * z) h.0) (mul-le-mul_right (y * z) h.1)
  where
    go : (x y z p n d q m c : ℕ) → (p * c + m * d) * (x * z) ≤ (q * d + n * c) * (x * z) → (q * d + n * c) * (y * z) ≤ (p * c + m * d) * (y * z)
        → (x * p + y * n) * (z * c) + (x * m + y * q) * (z * d) ≤ (x * q + y * m) * (z * d) + (x * n + y * p) * (z * c)
    go x y z p n d q m c h k =
        let u = simp ring at h in
        let v = simp ring at k in
        simp ring (omega arith)

middle_pos : Pos middle
unfolding middle ln2_low ln2_high twice_odds odd_tail sum_f pow_f
middle_pos = lit< tt

module _ (v k : Frac) (P : Pos v) (K : Pos k) where
  rest_pos : Pos (sub_f v (mul_f k middle))
  rest_pos = add_f_pos v (neg_f (mul_f k middle)) P (neg_f_pos (mul_f k middle) (mul_f_pos k middle K middle_pos))

  pub range_low : le_f (neg_f (over_f middle 2)) (sub_f v (mul_f k middle)) → le_f (neg_f (over_f M 2)) (sub_f v (mul_f k M))
  range_low h =
      le_trans_f (neg_f (over_f M 2)) (neg_f (over_f middle 2)) (sub_f v (mul_f k M)) (neg_f_pos (over_f middle 2) (over_pos middle 2 middle_pos (lit< tt))) (neg_anti_f (over_f middle 2) (over_f M 2) (over_mono middle M 2 middle_is.0))
      (le_trans_f (neg_f (over_f middle 2)) (sub_f v (mul_f k middle)) (sub_f v (mul_f k M)) rest_pos h (add_mono_f v v (neg_f (mul_f k middle)) (neg_f (mul_f k M)) (le_refl_f v) (neg_anti_f (mul_f k M) (mul_f k middle) (mul_eq_f k M middle (middle_is.1, middle_is.0)))))

  pub range_high : le_f (sub_f v (mul_f k middle)) (over_f middle 2) → le_f (sub_f v (mul_f k M)) (over_f M 2)
  range_high h =
      le_trans_f (sub_f v (mul_f k M)) (sub_f v (mul_f k middle)) (over_f M 2) rest_pos (add_mono_f v v (neg_f (mul_f k M)) (neg_f (mul_f k middle)) (le_refl_f v) (neg_anti_f (mul_f k middle) (mul_f k M) (mul_eq_f k middle M middle_is)))
      (le_trans_f (sub_f v (mul_f k middle)) (over_f middle 2) (over_f M 2) (over_pos middle 2 middle_pos (lit< tt)) h (over_mono middle M 2 middle_is.0))

-- ---- the cut a - b against the exponent (w - x) / T, ln 2 being m / q and v within c / U of its multiple
module _ (p n d m q a b w x T₁ c U : ℕ) (D : 0 < d) (Q : 0 < q) (M₁ : 0 < m) (half : q ≤ 2 * m) where
  cut_below : le_f (sub_f (frac p n d) (mul_f (frac a b 1) (frac m 0 q))) (over_f (frac m 0 q) 2) → le_f (neg_f (sub_f (frac p n d) (mul_f (frac w x T₁) (frac m 0 q)))) (frac c 0 U)
      → 2 * w * U + 2 * b * T₁ * U ≤ 4 * c * T₁ + T₁ * U + 2 * a * T₁ * U + 2 * x * U
  cut_below h k =
      let s = simp (ring, one-mul, mul-zero, zero-mul, add-zero, zero-add) at (mul-le-mul_right (T₁ * U) h) in
      let t = simp (ring, one-mul, mul-zero, zero-mul, add-zero, zero-add) at (mul-le-mul_right (2 * q) k) in
      let r = simp ring at (mul-le-mul_right (2 * c * d * T₁ * q) half) in
      le_of_mul-le-mul_right {k = m * d * q} (simp ring (omega arith)) (mul-pos (mul-pos M₁ D) Q)

  cut_above : le_f (neg_f (over_f (frac m 0 q) 2)) (sub_f (frac p n d) (mul_f (frac a b 1) (frac m 0 q))) → le_f (sub_f (frac p n d) (mul_f (frac w x T₁) (frac m 0 q))) (frac c 0 U)
      → 2 * a * T₁ * U + 2 * x * U ≤ 4 * c * T₁ + T₁ * U + 2 * w * U + 2 * b * T₁ * U
  cut_above h k =
      let s = simp (ring, one-mul, mul-zero, zero-mul, add-zero, zero-add) at (mul-le-mul_right (T₁ * U) h) in
      let t = simp (ring, one-mul, mul-zero, zero-mul, add-zero, zero-add) at (mul-le-mul_right (2 * q) k) in
      let r = simp ring at (mul-le-mul_right (2 * c * d * T₁ * q) half) in
      le_of_mul-le-mul_right {k = m * d * q} (simp ring (omega arith)) (mul-pos (mul-pos M₁ D) Q)

-- the whole number a - b at which v is cut, plus 1023: that of w, or the next one
abbrev pub Same : ℕ → ℕ → ℕ → Type 0
Same a b w = (a + 1023 ≡ b + w / 2 ^ 53) × (w % 2 ^ 53 ≤ 2 ^ 52 + 16)

abbrev pub Next : ℕ → ℕ → ℕ → Type 0
Next a b w = (a + 1023 ≡ b + (w / 2 ^ 53 + 1)) × (2 ^ 52 ≤ w % 2 ^ 53 + 16)

whole_cut : (a b w c : ℕ) → c ≤ 1024 → 2 * w * 2 ^ 60 + 2 * b * 2 ^ 53 * 2 ^ 60 ≤ 4 * c * 2 ^ 53 + 2 ^ 53 * 2 ^ 60 + 2 * a * 2 ^ 53 * 2 ^ 60 + 2 * (1023 * 2 ^ 53) * 2 ^ 60
    → 2 * a * 2 ^ 53 * 2 ^ 60 + 2 * (1023 * 2 ^ 53) * 2 ^ 60 ≤ 4 * c * 2 ^ 53 + 2 ^ 53 * 2 ^ 60 + 2 * w * 2 ^ 60 + 2 * b * 2 ^ 53 * 2 ^ 60 → Same a b w ⊎ Next a b w
whole_cut a b w c C h k = go (below a b w c C h) (above a b w c C k) (dec_le (a + 1023) (b + w / 2 ^ 53))
  where
    below : (a b w c : ℕ) → c ≤ 1024 → 2 * w * 2 ^ 60 + 2 * b * 2 ^ 53 * 2 ^ 60 ≤ 4 * c * 2 ^ 53 + 2 ^ 53 * 2 ^ 60 + 2 * a * 2 ^ 53 * 2 ^ 60 + 2 * (1023 * 2 ^ 53) * 2 ^ 60 → w + b * 2 ^ 53 ≤ (a + 1023) * 2 ^ 53 + 2 ^ 52 + 16
    below a b w c C h = omega arith

    above : (a b w c : ℕ) → c ≤ 1024 → 2 * a * 2 ^ 53 * 2 ^ 60 + 2 * (1023 * 2 ^ 53) * 2 ^ 60 ≤ 4 * c * 2 ^ 53 + 2 ^ 53 * 2 ^ 60 + 2 * w * 2 ^ 60 + 2 * b * 2 ^ 53 * 2 ^ 60 → (a + 1023) * 2 ^ 53 ≤ w + b * 2 ^ 53 + 2 ^ 52 + 16
    above a b w c C h = omega arith

    same : (k b w : ℕ) → w + b * 2 ^ 53 ≤ k * 2 ^ 53 + 2 ^ 52 + 16 → k ≤ b + w / 2 ^ 53 → (k ≡ b + w / 2 ^ 53) × (w % 2 ^ 53 ≤ 2 ^ 52 + 16)
    same k b w h l = (omega arith, omega arith)

    next : (k b w : ℕ) → k * 2 ^ 53 ≤ w + b * 2 ^ 53 + 2 ^ 52 + 16 → b + w / 2 ^ 53 < k → (k ≡ b + (w / 2 ^ 53 + 1)) × (2 ^ 52 ≤ w % 2 ^ 53 + 16)
    next k b w h l = (omega arith, omega arith)

    go : w + b * 2 ^ 53 ≤ (a + 1023) * 2 ^ 53 + 2 ^ 52 + 16 → (a + 1023) * 2 ^ 53 ≤ w + b * 2 ^ 53 + 2 ^ 52 + 16 → Dec (a + 1023 ≤ b + w / 2 ^ 53) → Same a b w ⊎ Next a b w
    go u v (yes l) = inl (same (a + 1023) b w u l)
    go u v (no l) = inr (next (a + 1023) b w v (lt_of_not-le l))

pub cut : (v : Frac) (w c a b : ℕ) → Pos v → c ≤ 1024 → Bound (sub_f v (mul_f (frac w (1023 * 2 ^ 53) (2 ^ 53)) M)) (frac c 0 (2 ^ 60))
    → le_f (neg_f (over_f middle 2)) (sub_f v (mul_f (frac a b 1) middle)) → le_f (sub_f v (mul_f (frac a b 1) middle)) (over_f middle 2) → Same a b w ⊎ Next a b w
cut (frac p n d) w c a b P C h l u =
    whole_cut a b w c C
    (cut_below p n d mn md a b w (1023 * 2 ^ 53) (2 ^ 53) c (2 ^ 60) P (lit< tt) (lit< tt) (lit≤ tt) (range_high (frac p n d) (frac a b 1) P (lit< tt) u) h.1)
    (cut_above p n d mn md a b w (1023 * 2 ^ 53) (2 ^ 53) c (2 ^ 60) P (lit< tt) (lit< tt) (lit≤ tt) (range_low (frac p n d) (frac a b 1) P (lit< tt) l) h.0)
