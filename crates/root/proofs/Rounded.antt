-- The root is correctly rounded: no float is as near, and no tie occurs. Assumes nothing.
use mathlib.Core.Path.{◌≡◌, sym, ap, ◌∙◌, subst}
use Prim.Native.Nat.{ℕ, zero, suc, ◌+◌, ◌-◌, ◌*◌, ◌/◌, ◌^◌, ◌≤◌, ◌<◌}
use native.Mathlib.Nat.{le_trans, le_of_eq, le_of_lt, lt_irrefl, lt_of_le_of_lt, lt_of_lt_of_le, lt_of_not-le, mul_assoc, mul-le-mul, mul-le-mul_left, mul-le-mul_right, mul-pos, suc-mul, mul-lt-mul_of_pos_right, lt_of_mul-lt-mul_right, pow-succ'}
use native.Mathlib.Omega.{arith}
use native.Mathlib.Decide.{dec_le}
use lib.Pow.{pow_pos, pow_mono, pow-add}
use Rattle.number.proofs.Frac.{ring}
use Rattle.root.proofs.Whole.{Whole}

-- ---- in units of 2 ^ -1074 a float is m 2 ^ e with an m of 53 digits at most; from 2 ^ 52 2 ^ h on it is a multiple of 2 ^ h
multiple : (m e h : ℕ) → m < 2 ^ 53 → 2 ^ 52 * 2 ^ h ≤ m * 2 ^ e → (q : ℕ) × (m * 2 ^ e ≡ q * 2 ^ h)
multiple m e h l k = go (dec_le h e)
  where
    small : e < h → m * 2 ^ e < 2 ^ 52 * 2 ^ h
    small n =
        lt_of_lt_of_le (mul-lt-mul_of_pos_right l (pow_pos e))
        (le_trans (le_of_eq (mul_assoc 4503599627370496 2 (2 ^ e) ∙ ap (λ (z : ℕ). 4503599627370496 * z) (sym (pow-succ' 2 e)))) (mul-le-mul_left 4503599627370496 (pow_mono n)))

    go : Dec (h ≤ e) → (q : ℕ) × (m * 2 ^ e ≡ q * 2 ^ h)
    go (yes p) = (
      m * 2 ^ (e - h),
      ap (λ (z : ℕ). m * 2 ^ z) (back e h p) ∙ ap (λ (z : ℕ). m * z) (pow-add 2 (e - h) h) ∙ sym (mul_assoc m (2 ^ (e - h)) (2 ^ h)),
    )
      where
        back : (e h : ℕ) → h ≤ e → e ≡ e - h + h
        back e h p = omega arith
    go (no n) = absurd (lt_irrefl (m * 2 ^ e) (lt_of_lt_of_le (small (lt_of_not-le n)) k))

-- ---- r is s u units, s = (w + 1) / 2, w the whole root of the even number n; a float of y units has its midpoint with r on r's side of the root
module _ (n b w s u : ℕ) (even : n ≡ 2 * b) (root : Whole w n) (half : s ≡ (w + 1) / 2) (U : 0 < u) where
  squares : (t : ℕ) → t * t * (u * u) ≡ t * u * (t * u)
  squares t = go t u
    where
      go : (t u : ℕ) → t * t * (u * u) ≡ t * u * (t * u)
      go t u = simp ring

  above_grid : (y : ℕ) → (s + 1) * u ≤ y → n * (u * u) < (s * u + y) * (s * u + y)
  above_grid y h = lt_of_lt_of_le (mul-lt-mul_of_pos_right (lt_of_lt_of_le root.1 (mul-le-mul (near w s half) (near w s half))) (mul-pos U U)) (le_trans (le_of_eq (squares (2 * s + 1))) (mul-le-mul (sums y h) (sums y h)))
    where
      near : (w s : ℕ) → s ≡ (w + 1) / 2 → w + 1 ≤ 2 * s + 1
      near w s e = omega arith

      sums : (y : ℕ) → (s + 1) * u ≤ y → (2 * s + 1) * u ≤ s * u + y
      sums y h = let a : (2 * s + 1) * u ≡ s * u + (s + 1) * u = simp ring (omega arith) in omega arith

  -- no tie: the square of an odd number is odd
  below_grid : (y : ℕ) → y + u ≤ s * u → (s * u + y) * (s * u + y) < n * (u * u)
  below_grid y h = go s half h
    where
      odd_square : (k : ℕ) → suc k ≡ (w + 1) / 2 → (2 * k + 1) * (2 * k + 1) < n
      odd_square k e =
          let p : 2 * k + 1 ≤ w = omega arith in
          let q : (2 * k + 1) * (2 * k + 1) ≤ n = le_trans (mul-le-mul p p) root.0 in
          let o : (2 * k + 1) * (2 * k + 1) ≡ 4 * (k * k) + 4 * k + 1 = simp ring (omega arith) in
          omega arith

      sums : (k : ℕ) → y + u ≤ suc k * u → suc k * u + y ≤ (2 * k + 1) * u
      sums k h = let a : suc k * u ≡ k * u + u = suc-mul k u in let c : (2 * k + 1) * u ≡ 2 * (k * u) + u = simp ring (omega arith) in omega arith

      go : (s : ℕ) → s ≡ (w + 1) / 2 → y + u ≤ s * u → (s * u + y) * (s * u + y) < n * (u * u)
      go zero e h = absurd (lt_irrefl 0 (lt_of_lt_of_le U (none y u h)))
        where
          none : (y u : ℕ) → y + u ≤ 0 * u → u ≤ 0
          none y u h = omega arith
      go (suc k) e h = lt_of_le_of_lt (mul-le-mul (sums k h) (sums k h)) (lt_of_le_of_lt (le_of_eq (sym (squares (2 * k + 1)))) (mul-lt-mul_of_pos_right (odd_square k e) (mul-pos U U)))

  -- where r is a power of two the floats below are closer, and the root is not below r
  below_power : (y : ℕ) → w ≡ 2 * s → y < s * u → (s * u + y) * (s * u + y) < n * (u * u)
  below_power y e h =
      lt_of_lt_of_le (lt_of_le_of_lt (mul-le-mul_left (s * u + y) (le_of_lt less)) (mul-lt-mul_of_pos_right less (lt_of_le_of_lt (low (s * u + y)) less)))
      (le_trans (le_of_eq (sym (squares w))) (mul-le-mul_right (u * u) root.0))
    where
      less : s * u + y < w * u
      less = let a : w * u ≡ s * u + s * u = ap (λ (z : ℕ). z * u) e ∙ two s u in omega arith
        where
          two : (s u : ℕ) → 2 * s * u ≡ s * u + s * u
          two s u = simp ring (omega arith)

      low : (x : ℕ) → 0 ≤ x
      low x = omega arith

-- ---- the same for the floats y = m 2 ^ e
module _ (n b w s h : ℕ) (even : n ≡ 2 * b) (root : Whole w n) (half : s ≡ (w + 1) / 2) (long : 2 ^ 53 ≤ w) (m e : ℕ) (short : m < 2 ^ 53) where
  top : 2 ^ 52 ≤ s
  top = omega arith

  pub above_float : s * 2 ^ h < m * 2 ^ e → n * (2 ^ h * 2 ^ h) < (s * 2 ^ h + m * 2 ^ e) * (s * 2 ^ h + m * 2 ^ e)
  above_float l = go (multiple m e h short (le_of_lt (lt_of_le_of_lt (mul-le-mul_right (2 ^ h) top) l)))
    where
      go : (q : ℕ) × (m * 2 ^ e ≡ q * 2 ^ h) → n * (2 ^ h * 2 ^ h) < (s * 2 ^ h + m * 2 ^ e) * (s * 2 ^ h + m * 2 ^ e)
      go q =
          let k : s < q.0 = lt_of_mul-lt-mul_right (2 ^ h) (subst (λ (z : ℕ). s * 2 ^ h < z) q.1 l) in
          above_grid n b w s (2 ^ h) even root half (pow_pos h) (m * 2 ^ e) (subst (λ (z : ℕ). (s + 1) * 2 ^ h ≤ z) (sym q.1) (mul-le-mul_right (2 ^ h) (next s q.0 k)))
        where
          next : (s q : ℕ) → s < q → s + 1 ≤ q
          next s q k = omega arith

  pub below_float : m * 2 ^ e < s * 2 ^ h → (s * 2 ^ h + m * 2 ^ e) * (s * 2 ^ h + m * 2 ^ e) < n * (2 ^ h * 2 ^ h)
  below_float l = go (dec_le (2 ^ 52 * 2 ^ h) (m * 2 ^ e)) (dec_le (4503599627370496 + 1) s)
    where
      grid : m * 2 ^ e + 2 ^ h ≤ s * 2 ^ h → (s * 2 ^ h + m * 2 ^ e) * (s * 2 ^ h + m * 2 ^ e) < n * (2 ^ h * 2 ^ h)
      grid = below_grid n b w s (2 ^ h) even root half (pow_pos h) (m * 2 ^ e)

      next : (q u : ℕ) → q * u + u ≡ (q + 1) * u
      next q u = simp ring (omega arith)

      on : (q : ℕ) × (m * 2 ^ e ≡ q * 2 ^ h) → m * 2 ^ e + 2 ^ h ≤ s * 2 ^ h
      on q =
          let k : q.0 < s = lt_of_mul-lt-mul_right (2 ^ h) (subst (λ (z : ℕ). z < s * 2 ^ h) q.1 l) in
          le_trans (le_of_eq (ap (λ (z : ℕ). z + 2 ^ h) q.1 ∙ next q.0 (2 ^ h))) (mul-le-mul_right (2 ^ h) (up q.0 s k))
        where
          up : (q s : ℕ) → q < s → q + 1 ≤ s
          up q s k = omega arith

      off : m * 2 ^ e < 2 ^ 52 * 2 ^ h → 4503599627370496 + 1 ≤ s → m * 2 ^ e + 2 ^ h ≤ s * 2 ^ h
      off k p = le_trans (lin (m * 2 ^ e) (2 ^ h) (2 ^ 52 * 2 ^ h) k) (le_trans (le_of_eq (next 4503599627370496 (2 ^ h))) (mul-le-mul_right (2 ^ h) p))
        where
          lin : (y u v : ℕ) → y < v → y + u ≤ v + u
          lin y u v k = omega arith

      power : (4503599627370496 + 1 ≤ s → ⊥) → w ≡ 2 * s
      power p = omega arith

      go : Dec (2 ^ 52 * 2 ^ h ≤ m * 2 ^ e) → Dec (4503599627370496 + 1 ≤ s) → (s * 2 ^ h + m * 2 ^ e) * (s * 2 ^ h + m * 2 ^ e) < n * (2 ^ h * 2 ^ h)
      go (yes p) d = grid (on (multiple m e h short p))
      go (no p) (yes k) = grid (off (lt_of_not-le p) k)
      go (no p) (no k) = below_power n b w s (2 ^ h) even root half (pow_pos h) (m * 2 ^ e) (power k) l
