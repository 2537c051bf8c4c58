-- The core's significand against document 01's thirty terms: the table's test, read at every exponent, and the floors. Assumes nothing.
use mathlib.Core.Path.{◌≡◌, refl, sym, ap, ◌∙◌, subst}
use mathlib.Core.Bool.{Bool, true, false, not}
use mathlib.Core.List.{[], ◌∷◌}
use Prim.Native.Nat.{ℕ, ◌+◌, ◌-◌, ◌*◌, ◌/◌, ◌%◌, ◌^◌, ◌≤◌, ◌<◌}
use native.Mathlib.Nat.{mul-add, mul-le-mul_right, le_of_mul-le-mul_right, pow-zero, zero-mul, mul-zero, one-mul, mul-one, add-zero, zero-add}
use native.Mathlib.Omega.{arith}
use lib.Dec.{T, ltb, ltb→lt, not_T, lit<}
use lib.ListN.{length, get_or}
use lib.Ieee.Fits.{and_l, and_r}
use Rattle.fixed_point.specs.Horner.{horner}
use Rattle.fixed_point.proofs.Polynomial.{hom}
use Rattle.fixed_point.proofs.Horner.{ring}
use Rattle.fixed_point.proofs.Bernstein.{fma, fma_is, front_start, front_length, again_is, again_length, once, once_acts, under, under_le}
use Rattle.series.proofs.Constants.{mn, md}
use Rattle.exponential.specs.Powers.{powers, terms}
use Rattle.exponential.specs.Raise.{significand_of}
use Rattle.exponential.proofs.Digits.{place, entry_hi}
use Rattle.exponential.proofs.Terms.{K, turn, sum, all_terms, both_terms, up_is, turn_is}
use Rattle.exponential.proofs.PowerTest.{denominator, up_l, turn_l, core_l, units_l, scale, near0, near1, at_place}
use Rattle.number.proofs.Table.{unless}
use Rattle.exponential.proofs.Near.{result_lo, result_hi}

-- ---- on plain numbers: c is `scale`, P T ^ 24, p T ^ 5, H the core's polynomial, w 2 ^ 71; A - B is the sum of the terms over Z
join_lo : (c P p H A B e X Z w v u : ℕ) → 0 < w * p → u ≡ v * w → c * P * p ≡ Z → e * c * (P * H) + u * B ≤ u * A → X * w * p ≤ e * H → X * Z + v * B ≤ v * A
join_lo c P p H A B e X Z w v u pos vw z h k =
    le_of_mul-le-mul_right {k = w * p} (go (subst (λ (y : ℕ). e * c * (P * H) + y * B ≤ y * A) vw h) (subst (λ (y : ℕ). X * w * p * y ≤ e * H * y) (sym z) (mul-le-mul_right Z k))) pos
  where
    go : e * c * (P * H) + v * w * B ≤ v * w * A → X * w * p * (c * P * p) ≤ e * H * (c * P * p) → (X * Z + v * B) * (w * p) ≤ v * A * (w * p)
    go a b =
        let i = simp ring at (mul-le-mul_right p a) in
        let j = simp ring at b in
        subst (λ (y : ℕ). (X * y + v * B) * (w * p) ≤ v * A * (w * p)) z (simp ring (omega arith))

join_hi : (c P p H A B e X Z w v u U : ℕ) → 0 < w * p → u ≡ v * w → c * P * p ≡ Z → u * A ≤ c * (e * (P * H) + P * p * (U * w)) + u * B → e * H ≤ (X + 2) * w * p → v * A ≤ (X + (2 + U)) * Z + v * B
join_hi c P p H A B e X Z w v u U pos vw z h k =
    le_of_mul-le-mul_right {k = w * p} (go (subst (λ (y : ℕ). y * A ≤ c * (e * (P * H) + P * p * (U * w)) + y * B) vw h) (mul-le-mul_right (c * P * p) k)) pos
  where
    go : v * w * A ≤ c * (e * (P * H) + P * p * (U * w)) + v * w * B → e * H * (c * P * p) ≤ (X + 2) * w * p * (c * P * p) → v * A * (w * p) ≤ ((X + (2 + U)) * Z + v * B) * (w * p)
    go a b =
        let i = simp ring at (mul-le-mul_right p a) in
        let j = simp ring at b in
        subst (λ (y : ℕ). v * A * (w * p) ≤ ((X + (2 + U)) * y + v * B) * (w * p)) z (simp ring (omega arith))

-- ---- the lists' values
module _ (s t : ℕ) where
  abbrev T₁ : ℕ
  T₁ = 1 * s + 1 * t

  abbrev D : ℕ
  D = 128 * md * s + 128 * md * t

  core_is : hom core_l t s ≡ T₁ ^ 24 * hom (2 ^ 71 ∷ terms) (0 * s + 1 * t) T₁
  core_is = again_is 24 (once 1 1) T₁ 1 s t (once_acts 1 1 s t) _ ∙ ap (λ (z : ℕ). T₁ ^ 24 * z) (front_start (once 0 1) (once 1 1) (0 * s + 1 * t) T₁ 1 s t (once_acts 0 1 s t) (once_acts 1 1 s t) (2 ^ 71) terms)

  core_length : length core_l ≡ 30
  core_length = again_length 24 (once 1 1) T₁ s t (once_acts 1 1 s t) _ ∙ ap (λ (z : ℕ). 24 + z) (front_length (once 0 1) (once 1 1) (0 * s + 1 * t) T₁ s t (once_acts 0 1 s t) (once_acts 1 1 s t) terms (once 0 1 (1 ∷ [])) (2 ^ 71 ∷ []) ((once_acts 0 1 s t).longer (1 ∷ [])))

  single : (c : ℕ) → hom (c ∷ []) t s ≡ c
  unfolding hom
  single c = ap (λ (z : ℕ). c * z + t * 0) (pow-zero s) ∙ ap (λ (z : ℕ). c * 1 + z) (mul-zero t) ∙ add-zero (c * 1) ∙ mul-one c

  units_is : hom units_l t s ≡ T₁ ^ 29 * (650 * 2 ^ 71)
  units_is = again_is 29 (once 1 1) T₁ 1 s t (once_acts 1 1 s t) (650 * 2 ^ 71 ∷ []) ∙ ap (λ (z : ℕ). T₁ ^ 29 * z) (single (650 * 2 ^ 71))

  units_length : length units_l ≡ 30
  units_length = again_length 29 (once 1 1) T₁ s t (once_acts 1 1 s t) (650 * 2 ^ 71 ∷ [])

  top_is : (e : ℕ) → hom (fma e core_l units_l) t s ≡ e * (T₁ ^ 24 * hom (2 ^ 71 ∷ terms) (0 * s + 1 * t) T₁) + T₁ ^ 29 * (650 * 2 ^ 71)
  top_is e = fma_is e s t core_l units_l (core_length ∙ sym units_length) ∙ ap (λ (z : ℕ). e * z + hom units_l t s) core_is ∙ ap (λ (z : ℕ). e * (T₁ ^ 24 * hom (2 ^ 71 ∷ terms) (0 * s + 1 * t) T₁) + z) units_is

  all_is : (j : ℕ) → hom (up_l j) t s ≡ all_terms (mn * j * s + mn * (j + 1) * t) D
  all_is j =
      up_is s t (mn * j * s + mn * (j + 1) * t) D (once (mn * j) (mn * (j + 1))) denominator (once_acts (mn * j) (mn * (j + 1)) s t) (once_acts (128 * md) (128 * md) s t) 29 1 (1 ∷ []) (K ∷ []) refl
      ∙ rw (single 1, single K)

  both_is : (j : ℕ) → (hom (turn_l j).0 t s ≡ (both_terms (mn * (128 - j) * s + mn * (127 - j) * t) D).0) × (hom (turn_l j).1 t s ≡ (both_terms (mn * (128 - j) * s + mn * (127 - j) * t) D).1)
  both_is j =
      let n = mn * (128 - j) * s + mn * (127 - j) * t in
      let r = turn_is s t n D (once (mn * (128 - j)) (mn * (127 - j))) denominator (once_acts (mn * (128 - j)) (mn * (127 - j)) s t) (once_acts (128 * md) (128 * md) s t) 29 1 (1 ∷ []) (K ∷ []) (0 ∷ []) refl refl in
      let same : turn (λ (x : ℕ). n * x) (λ (x : ℕ). D * x) sum 29 1 (hom (1 ∷ []) t s) (hom (K ∷ []) t s) (hom (0 ∷ []) t s) ≡ turn (λ (x : ℕ). n * x) (λ (x : ℕ). D * x) sum 29 1 1 K 0 = rw (single 1, single K, single 0) in
      (r.0 ∙ ap (λ (z : ℕ × ℕ). z.0) same, r.1 ∙ ap (λ (z : ℕ × ℕ). z.1) same)

-- ---- 2 ^ 46 units in a place
Z-is : scale * (2 ^ 46) ^ 24 * (2 ^ 46) ^ 5 ≡ K * (md * 2 ^ 53) ^ 29
Z-is = refl

module _ (s t : ℕ) (whole : s + t ≡ 2 ^ 46) where
  one_whole : 1 * s + 1 * t ≡ 2 ^ 46
  one_whole = ap (λ (z : ℕ). z + 1 * t) (one-mul s) ∙ ap (λ (z : ℕ). s + z) (one-mul t) ∙ whole

  one_part : 0 * s + 1 * t ≡ t
  one_part = ap (λ (z : ℕ). z + 1 * t) (zero-mul s) ∙ ap (λ (z : ℕ). 0 + z) (one-mul t) ∙ zero-add t

  d_is : 128 * md * s + 128 * md * t ≡ md * 2 ^ 53
  d_is = sym (mul-add (128 * md) s t) ∙ ap (λ (z : ℕ). 128 * md * z) whole

  core_at : hom core_l t s ≡ (2 ^ 46) ^ 24 * hom (2 ^ 71 ∷ terms) t (2 ^ 46)
  core_at = core_is s t ∙ ap (λ (z : ℕ). z ^ 24 * hom (2 ^ 71 ∷ terms) (0 * s + 1 * t) z) one_whole ∙ ap (λ (z : ℕ). (2 ^ 46) ^ 24 * hom (2 ^ 71 ∷ terms) z (2 ^ 46)) one_part

  top_at : (e : ℕ) → hom (fma e core_l units_l) t s ≡ e * ((2 ^ 46) ^ 24 * hom (2 ^ 71 ∷ terms) t (2 ^ 46)) + (2 ^ 46) ^ 24 * (2 ^ 46) ^ 5 * (650 * 2 ^ 71)
  top_at e = top_is s t e ∙ ap (λ (z : ℕ). e * (z ^ 24 * hom (2 ^ 71 ∷ terms) (0 * s + 1 * t) z) + z ^ 29 * (650 * 2 ^ 71)) one_whole ∙ ap (λ (z : ℕ). e * ((2 ^ 46) ^ 24 * hom (2 ^ 71 ∷ terms) z (2 ^ 46)) + (2 ^ 46) ^ 24 * (2 ^ 46) ^ 5 * (650 * 2 ^ 71)) one_part

  n_up : (m j : ℕ) → m * j * s + m * (j + 1) * t ≡ m * (j * 2 ^ 46 + t)
  n_up m j = go m j s t ∙ ap (λ (z : ℕ). m * (j * z + t)) whole
    where
      go : (m j s t : ℕ) → m * j * s + m * (j + 1) * t ≡ m * (j * (s + t) + t)
      go m j s t = simp (ring, one-mul)

  n_down : (m j : ℕ) → j < 128 → m * (128 - j) * s + m * (127 - j) * t ≡ m * (2 ^ 53 - (j * 2 ^ 46 + t))
  n_down m j h = ap (λ (z : ℕ). m * z * s + m * (127 - j) * t) (less j h) ∙ go m (127 - j) s t ∙ ap (λ (z : ℕ). m * z) (last j s t h whole)
    where
      less : (j : ℕ) → j < 128 → 128 - j ≡ 127 - j + 1
      less j h = omega arith

      go : (m i s t : ℕ) → m * (i + 1) * s + m * i * t ≡ m * (i * (s + t) + s)
      go m i s t = simp (ring, one-mul)

      last : (j s t : ℕ) → j < 128 → s + t ≡ 2 ^ 46 → (127 - j) * (s + t) + s ≡ 2 ^ 53 - (j * 2 ^ 46 + t)
      last j s t h e = ap (λ (z : ℕ). (127 - j) * z + s) e ∙ lin j s t h e
        where
          lin : (j s t : ℕ) → j < 128 → s + t ≡ 2 ^ 46 → (127 - j) * 2 ^ 46 + s ≡ 2 ^ 53 - (j * 2 ^ 46 + t)
          lin j s t h e = omega arith

  module _ (j e : ℕ) (small : t < 2 ^ 46) (fits : e ≤ 2 ^ 64) where
    abbrev X : ℕ
    X = e + e * (t * 2 ^ 18 * horner terms (t * 2 ^ 18) / 2 ^ 64) / 2 ^ 64 / 128

    all_at : hom (up_l j) t s ≡ all_terms (mn * (j * 2 ^ 46 + t)) (md * 2 ^ 53)
    all_at = all_is s t j ∙ ap (λ (z : ℕ). all_terms z (128 * md * s + 128 * md * t)) (n_up mn j) ∙ ap (λ (z : ℕ). all_terms (mn * (j * 2 ^ 46 + t)) z) d_is

    pub up_near : T (near0 e (up_l j))
        → (X * (K * (md * 2 ^ 53) ^ 29) ≤ 2 ^ 63 * all_terms (mn * (j * 2 ^ 46 + t)) (md * 2 ^ 53))
        × (2 ^ 63 * all_terms (mn * (j * 2 ^ 46 + t)) (md * 2 ^ 53) ≤ (X + 652) * (K * (md * 2 ^ 53) ^ 29))
    up_near h =
        let us = up_l j in
        let A = all_terms (mn * (j * 2 ^ 46 + t)) (md * 2 ^ 53) in
        let P = (2 ^ 46) ^ 24 in
        let p = (2 ^ 46) ^ 5 in
        let H = hom (2 ^ 71 ∷ terms) t (2 ^ 46) in
        let l = under_le 0 0 (e * scale) (2 ^ 134) 0 0 s t us us core_l (and_l (under 0 0 (e * scale) (2 ^ 134) 0 0 us us core_l) (under (2 ^ 134) 0 0 0 0 scale us us (fma e core_l units_l)) h) in
        let u = under_le (2 ^ 134) 0 0 0 0 scale s t us us (fma e core_l units_l) (and_r (under 0 0 (e * scale) (2 ^ 134) 0 0 us us core_l) (under (2 ^ 134) 0 0 0 0 scale us us (fma e core_l units_l)) h) in (
          drop_right (join_lo scale P p H A 0 e X (K * (md * 2 ^ 53) ^ 29) (2 ^ 71) (2 ^ 63) (2 ^ 134) (lit< tt) refl Z-is (low (2 ^ 134) (e * scale) all_at core_at l) (result_lo t e small fits)),
          drop_left (join_hi scale P p H A 0 e X (K * (md * 2 ^ 53) ^ 29) (2 ^ 71) (2 ^ 63) (2 ^ 134) 650 (lit< tt) refl Z-is (high (2 ^ 134) scale all_at (top_at e) u) (result_hi t e small fits)),
        )
      where
        low : (v c : ℕ) {U C U' C' : ℕ} → U ≡ U' → C ≡ C' → 0 * U + 0 * U + c * C ≤ v * U + 0 * U + 0 * C → c * C' + v * 0 ≤ v * U'
        low v c {U} {C} {U'} {C'} p q h = rw (sym p) (rw (sym q) (lin (0 * U) (0 * C) (v * 0) (c * C) (v * U) (zero-mul U) (zero-mul C) (mul-zero v) h))
          where
            lin : (a b z y x : ℕ) → a ≡ 0 → b ≡ 0 → z ≡ 0 → a + a + y ≤ x + a + b → y + z ≤ x
            lin a b z y x i j k h = omega arith

        high : (v c : ℕ) {U C U' C' : ℕ} → U ≡ U' → C ≡ C' → v * U + 0 * U + 0 * C ≤ 0 * U + 0 * U + c * C → v * U' ≤ c * C' + v * 0
        high v c {U} {C} {U'} {C'} p q h = rw (sym p) (rw (sym q) (lin (0 * U) (0 * C) (v * 0) (c * C) (v * U) (zero-mul U) (zero-mul C) (mul-zero v) h))
          where
            lin : (a b z y x : ℕ) → a ≡ 0 → b ≡ 0 → z ≡ 0 → x + a + b ≤ a + a + y → x ≤ y + z
            lin a b z y x i j k h = omega arith

        drop_right : {x y : ℕ} → x + 2 ^ 63 * 0 ≤ y → x ≤ y
        drop_right h = omega arith

        drop_left : {x y : ℕ} → x ≤ y + 2 ^ 63 * 0 → x ≤ y
        drop_left h = omega arith

    turn_at : (hom (turn_l j).0 t s ≡ (both_terms (mn * (128 - j) * s + mn * (127 - j) * t) (md * 2 ^ 53)).0) × (hom (turn_l j).1 t s ≡ (both_terms (mn * (128 - j) * s + mn * (127 - j) * t) (md * 2 ^ 53)).1)
    turn_at =
        let n = mn * (128 - j) * s + mn * (127 - j) * t in
        let r = both_is s t j in
        (r.0 ∙ ap (λ (z : ℕ). (both_terms n z).0) d_is, r.1 ∙ ap (λ (z : ℕ). (both_terms n z).1) d_is)

    -- the even terms over the odd ones
    pub down_near : j < 128 → T (near1 e (turn_l j))
        → (X * (K * (md * 2 ^ 53) ^ 29) + 2 ^ 64 * (both_terms (mn * (2 ^ 53 - (j * 2 ^ 46 + t))) (md * 2 ^ 53)).0 ≤ 2 ^ 64 * (both_terms (mn * (2 ^ 53 - (j * 2 ^ 46 + t))) (md * 2 ^ 53)).1)
        × (2 ^ 64 * (both_terms (mn * (2 ^ 53 - (j * 2 ^ 46 + t))) (md * 2 ^ 53)).1 ≤ (X + 652) * (K * (md * 2 ^ 53) ^ 29) + 2 ^ 64 * (both_terms (mn * (2 ^ 53 - (j * 2 ^ 46 + t))) (md * 2 ^ 53)).0)
    down_near j128 h =
        subst (λ (n : ℕ). (X * (K * (md * 2 ^ 53) ^ 29) + 2 ^ 64 * (both_terms n (md * 2 ^ 53)).0 ≤ 2 ^ 64 * (both_terms n (md * 2 ^ 53)).1) × (2 ^ 64 * (both_terms n (md * 2 ^ 53)).1 ≤ (X + 652) * (K * (md * 2 ^ 53) ^ 29) + 2 ^ 64 * (both_terms n (md * 2 ^ 53)).0)) (n_down mn j j128)
        (let vs = (turn_l j).0 in
        let us = (turn_l j).1 in
        let n = mn * (128 - j) * s + mn * (127 - j) * t in
        let A = (both_terms n (md * 2 ^ 53)).1 in
        let B = (both_terms n (md * 2 ^ 53)).0 in
        let P = (2 ^ 46) ^ 24 in
        let p = (2 ^ 46) ^ 5 in
        let H = hom (2 ^ 71 ∷ terms) t (2 ^ 46) in
        let l = under_le 0 (2 ^ 135) (e * scale) (2 ^ 135) 0 0 s t us vs core_l (and_l (under 0 (2 ^ 135) (e * scale) (2 ^ 135) 0 0 us vs core_l) (under (2 ^ 135) 0 0 0 (2 ^ 135) scale us vs (fma e core_l units_l)) h) in
        let u = under_le (2 ^ 135) 0 0 0 (2 ^ 135) scale s t us vs (fma e core_l units_l) (and_r (under 0 (2 ^ 135) (e * scale) (2 ^ 135) 0 0 us vs core_l) (under (2 ^ 135) 0 0 0 (2 ^ 135) scale us vs (fma e core_l units_l)) h) in (
          join_lo scale P p H A B e X (K * (md * 2 ^ 53) ^ 29) (2 ^ 71) (2 ^ 64) (2 ^ 135) (lit< tt) refl Z-is (low (2 ^ 135) (e * scale) turn_at.1 turn_at.0 core_at l) (result_lo t e small fits),
          join_hi scale P p H A B e X (K * (md * 2 ^ 53) ^ 29) (2 ^ 71) (2 ^ 64) (2 ^ 135) 650 (lit< tt) refl Z-is (high (2 ^ 135) scale turn_at.1 turn_at.0 (top_at e) u) (result_hi t e small fits),
        ))
      where
        low : (v c : ℕ) {U V₀ C U' V' C' : ℕ} → U ≡ U' → V₀ ≡ V' → C ≡ C' → 0 * U + v * V₀ + c * C ≤ v * U + 0 * V₀ + 0 * C → c * C' + v * V' ≤ v * U'
        low v c {U} {V₀} {C} {U'} {V'} {C'} p r q h = rw (sym p) (rw (sym q) (rw (sym r) (lin (0 * U) (0 * V₀) (0 * C) (c * C) (v * U) (v * V₀) (zero-mul U) (zero-mul V₀) (zero-mul C) h)))
          where
            lin : (a b d y x z : ℕ) → a ≡ 0 → b ≡ 0 → d ≡ 0 → a + z + y ≤ x + b + d → y + z ≤ x
            lin a b d y x z i j k h = omega arith

        high : (v c : ℕ) {U V₀ C U' V' C' : ℕ} → U ≡ U' → V₀ ≡ V' → C ≡ C' → v * U + 0 * V₀ + 0 * C ≤ 0 * U + v * V₀ + c * C → v * U' ≤ c * C' + v * V'
        high v c {U} {V₀} {C} {U'} {V'} {C'} p r q h = rw (sym p) (rw (sym q) (rw (sym r) (lin (0 * U) (0 * V₀) (0 * C) (c * C) (v * U) (v * V₀) (zero-mul U) (zero-mul V₀) (zero-mul C) h)))
          where
            lin : (a b d y x z : ℕ) → a ≡ 0 → b ≡ 0 → d ≡ 0 → x + b + d ≤ a + z + y → x ≤ y + z
            lin a b d y x z i j k h = omega arith

-- ---- at every exponent w, φ / 2 ^ 53 being its fraction
whole_is : (w : ℕ) → 2 ^ 46 - w % 2 ^ 46 + w % 2 ^ 46 ≡ 2 ^ 46
whole_is w = omega arith

part_lt : (w : ℕ) → w % 2 ^ 46 < 2 ^ 46
part_lt w = omega arith

fraction_is : (w : ℕ) → w / 2 ^ 46 % 128 * 2 ^ 46 + w % 2 ^ 46 ≡ w % 2 ^ 53
fraction_is w = omega arith

top_fits : (e : ℕ) → e ≤ 18347121020861646923 → e ≤ 2 ^ 64
top_fits e h = omega arith

given : (b c : Bool) → T (not b) → T (unless b c) → T c
given true c n h = absurd n
given false c n h = h

-- φ below a half, or a little above: exp (φ ln 2 / 2 ^ 53)
pub near_up : (w : ℕ) → w % 2 ^ 53 < 65 * 2 ^ 46
    → (significand_of w * (K * (md * 2 ^ 53) ^ 29) ≤ 2 ^ 63 * all_terms (mn * (w % 2 ^ 53)) (md * 2 ^ 53))
    × (2 ^ 63 * all_terms (mn * (w % 2 ^ 53)) (md * 2 ^ 53) ≤ (significand_of w + 652) * (K * (md * 2 ^ 53) ^ 29))
unfolding significand_of
near_up w h =
    let j = w / 2 ^ 46 % 128 in
    let t = w % 2 ^ 46 in
    let e = get_or powers j 0 in
    subst (λ (z : ℕ). (significand_of w * (K * (md * 2 ^ 53) ^ 29) ≤ 2 ^ 63 * all_terms (mn * z) (md * 2 ^ 53)) × (2 ^ 63 * all_terms (mn * z) (md * 2 ^ 53) ≤ (significand_of w + 652) * (K * (md * 2 ^ 53) ^ 29))) (fraction_is w)
    (up_near (2 ^ 46 - t) t (whole_is w) j e (part_lt w) (top_fits e (entry_hi j (place w)))
    (given (ltb 64 j) (near0 e (up_l j)) (not_T (ltb 64 j) (λ (u : T (ltb 64 j)). apart w h (ltb→lt 64 j u))) (and_l (unless (ltb 64 j) (near0 e (up_l j))) (unless (ltb j 63) (near1 e (turn_l j))) (at_place j (place w)))))
  where
    apart : (w : ℕ) → w % 2 ^ 53 < 65 * 2 ^ 46 → 64 < w / 2 ^ 46 % 128 → ⊥
    apart w h k = omega arith

-- φ above a half, or a little below: 2 exp ((φ / 2 ^ 53 - 1) ln 2)
pub near_down : (w : ℕ) → 63 * 2 ^ 46 ≤ w % 2 ^ 53
    → (significand_of w * (K * (md * 2 ^ 53) ^ 29) + 2 ^ 64 * (both_terms (mn * (2 ^ 53 - w % 2 ^ 53)) (md * 2 ^ 53)).0 ≤ 2 ^ 64 * (both_terms (mn * (2 ^ 53 - w % 2 ^ 53)) (md * 2 ^ 53)).1)
    × (2 ^ 64 * (both_terms (mn * (2 ^ 53 - w % 2 ^ 53)) (md * 2 ^ 53)).1 ≤ (significand_of w + 652) * (K * (md * 2 ^ 53) ^ 29) + 2 ^ 64 * (both_terms (mn * (2 ^ 53 - w % 2 ^ 53)) (md * 2 ^ 53)).0)
unfolding significand_of
near_down w h =
    let j = w / 2 ^ 46 % 128 in
    let t = w % 2 ^ 46 in
    let e = get_or powers j 0 in
    subst (λ (z : ℕ). (significand_of w * (K * (md * 2 ^ 53) ^ 29) + 2 ^ 64 * (both_terms (mn * (2 ^ 53 - z)) (md * 2 ^ 53)).0 ≤ 2 ^ 64 * (both_terms (mn * (2 ^ 53 - z)) (md * 2 ^ 53)).1) × (2 ^ 64 * (both_terms (mn * (2 ^ 53 - z)) (md * 2 ^ 53)).1 ≤ (significand_of w + 652) * (K * (md * 2 ^ 53) ^ 29) + 2 ^ 64 * (both_terms (mn * (2 ^ 53 - z)) (md * 2 ^ 53)).0)) (fraction_is w)
    (down_near (2 ^ 46 - t) t (whole_is w) j e (part_lt w) (top_fits e (entry_hi j (place w))) (place w)
    (given (ltb j 63) (near1 e (turn_l j)) (not_T (ltb j 63) (λ (u : T (ltb j 63)). apart w h (ltb→lt j 63 u))) (and_r (unless (ltb 64 j) (near0 e (up_l j))) (unless (ltb j 63) (near1 e (turn_l j))) (at_place j (place w)))))
  where
    apart : (w : ℕ) → 63 * 2 ^ 46 ≤ w % 2 ^ 53 → w / 2 ^ 46 % 128 < 63 → ⊥
    apart w h k = omega arith
