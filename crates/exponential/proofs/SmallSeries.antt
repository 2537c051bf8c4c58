-- The two numbers whose quotient exp_m1 takes near 0, against document 01's terms at ± n / d, n / d = |x| at most 1/4. Assumes nothing.
use mathlib.Core.Path.{◌≡◌, refl, sym, ap, ◌∙◌}
use mathlib.Core.List.{[], ◌∷◌}
use Prim.Native.Nat.{ℕ, ◌+◌, ◌-◌, ◌*◌, ◌/◌, ◌^◌, ◌≤◌, ◌<◌}
use native.Mathlib.Nat.{mul_assoc, mul_comm, mul_left_comm, mul-zero, zero-mul, one-mul, mul-one, add-zero, le_trans, le_of_eq, mul-pos, mul-le-mul, mul-le-mul_left, mul-le-mul_right, le_of_mul-le-mul_right, div-mul-le_self, div-le_of_le-mul, sub-add_cancel, pow-suc, pow-zero}
use native.Mathlib.Omega.{arith}
use lib.Dec.{lit<, lit≤}
use Rattle.number.proofs.Frac.{ring}
use Rattle.fixed_point.specs.Horner.{horner}
use Rattle.fixed_point.proofs.Polynomial.{hom}
use Rattle.fixed_point.proofs.Horner.{lower, upper}
use Rattle.exponential.specs.ExpM1.{over_terms, under_terms}
use Rattle.exponential.proofs.Terms.{K}
use Rattle.exponential.proofs.SmallTerms.{skips}
use Rattle.exponential.proofs.Pade.{square, first_up, first_down, second_up, second_down, even_le, odd_least}
use Rattle.exponential.proofs.SmallPart.{square_le, over_most}

-- three terms by their powers
three_is : (f g h n d : ℕ) → hom (f ∷ g ∷ h ∷ []) n d ≡ square f g h n d
unfolding hom
three_is f g h n d = go f g h n d (pow-suc d 1) (pow-suc d 0) (pow-zero d)
  where
    go : (f g h n d : ℕ) → d ^ 2 ≡ d ^ 1 * d → d ^ 1 ≡ d ^ 0 * d → d ^ 0 ≡ 1 → f * d ^ 2 + n * (g * d ^ 1 + n * (h * d ^ 0 + n * 0)) ≡ f * (d * d) + g * (n * d) + h * (n * n)
    go f g h n d p q r = rw (p, q, r) (simp (ring, mul-zero, zero-mul, one-mul, mul-one, add-zero) (omega arith))

-- the third power of d apart
third : (h d : ℕ) → h * 16 * d ^ 3 ≡ h * 16 * (d * d) * d
third h d = ap (λ (z : ℕ). h * 16 * z) (pow-suc d 2 ∙ ap (λ (z : ℕ). z * d) (pow-suc d 1 ∙ ap (λ (z : ℕ). z * d) (pow-suc d 0 ∙ ap (λ (z : ℕ). z * d) (pow-zero d) ∙ one-mul d))) ∙ sym (mul_assoc (h * 16) (d * d) d)

-- ---- Horner's rule at the square, q in units of 2 ^ -64 and at most 2 units too small; 16 / (2 ^ 53 + 1) the unit of the coefficients
module _ (q n d : ℕ) (below : q * d ≤ n * 2 ^ 64) (above : n * 2 ^ 64 ≤ (q + 2) * d) (quarter : 16 * n ≤ d) (small : q ≤ 2 ^ 63) (D : 0 < d) where
  -- without the factor d
  cut_lo : (h f g k : ℕ) → h * 16 * d ^ 3 ≤ (2 ^ 53 + 1) * hom (f ∷ g ∷ k ∷ []) n d * d → h * 16 * (d * d) ≤ (2 ^ 53 + 1) * square f g k n d
  cut_lo h f g k l = le_of_mul-le-mul_right {k = d} (le_trans (le_of_eq (sym (third h d))) (le_trans l (le_of_eq (ap (λ (z : ℕ). (2 ^ 53 + 1) * z * d) (three_is f g k n d))))) D

  cut_hi : (h f g k : ℕ) → (2 ^ 53 + 1) * hom (f ∷ g ∷ k ∷ []) n d * d ≤ h * 16 * d ^ 3 → (2 ^ 53 + 1) * square f g k n d ≤ h * 16 * (d * d)
  cut_hi h f g k l = le_of_mul-le-mul_right {k = d} (le_trans (le_of_eq (sym (ap (λ (z : ℕ). (2 ^ 53 + 1) * z * d) (three_is f g k n d)))) (le_trans l (le_of_eq (third h d)))) D

  over_lo : horner over_terms q * 16 * (d * d) ≤ (2 ^ 53 + 1) * square 15120 420 1 n d
  over_lo = cut_lo (horner over_terms q) 15120 420 1 (lower 16 (2 ^ 53 + 1) q n d over_terms (15120 ∷ 420 ∷ 1 ∷ []) tt below)

  over_hi : (2 ^ 53 + 1) * square 15120 420 1 n d ≤ (horner over_terms q + 5) * 16 * (d * d)
  over_hi = cut_hi (horner over_terms q + 5) 15120 420 1 (upper 16 (2 ^ 53 + 1) q n d 16 2 0 0 over_terms (15120 ∷ 420 ∷ 1 ∷ []) tt above quarter (lit≤ tt) (lit≤ tt) small tt)

  under_lo : horner under_terms q * 16 * (d * d) ≤ (2 ^ 53 + 1) * square 15120 1680 15 n d
  under_lo = cut_lo (horner under_terms q) 15120 1680 15 (lower 16 (2 ^ 53 + 1) q n d under_terms (15120 ∷ 1680 ∷ 15 ∷ []) tt below)

  under_hi : (2 ^ 53 + 1) * square 15120 1680 15 n d ≤ (horner under_terms q + 5) * 16 * (d * d)
  under_hi = cut_hi (horner under_terms q + 5) 15120 1680 15 (upper 16 (2 ^ 53 + 1) q n d 16 2 0 0 under_terms (15120 ∷ 1680 ∷ 15 ∷ []) tt above quarter (lit≤ tt) (lit≤ tt) small tt)

-- ---- on plain numbers: Q is 2 c d less or more n a, S the ratio's numerator
module _ (n d O E U a c R t₁ t₂ : ℕ) (up₁ : c * O ≤ a * (2 * U + n * n * E) + t₁ * R) (down₁ : a * (2 * U + n * n * E) ≤ c * O + t₁ * R) (up₂ : c * (d * d * E) ≤ a * O + t₂ * R) (down₂ : a * O ≤ c * (d * d * E) + t₂ * R) (less : n ≤ d) where
  rest_le : n * (t₂ * R) ≤ d * (t₂ * R)
  rest_le = mul-le-mul_right (t₂ * R) less

  plus_up : (Q : ℕ) → Q + n * a ≡ c * d → Q * (O + n * d * E) ≤ 2 * U * a * d + (t₁ + t₂) * (d * R)
  plus_up Q e = go Q n d O E U a c R t₁ t₂ (ap (λ (z : ℕ). z * (O + n * d * E)) e) (mul-le-mul_left d up₁) (mul-le-mul_left n up₂) rest_le
    where
      go : (Q n d O E U a c R t₁ t₂ : ℕ) → (Q + n * a) * (O + n * d * E) ≡ c * d * (O + n * d * E) → d * (c * O) ≤ d * (a * (2 * U + n * n * E) + t₁ * R) → n * (c * (d * d * E)) ≤ n * (a * O + t₂ * R) → n * (t₂ * R) ≤ d * (t₂ * R)
          → Q * (O + n * d * E) ≤ 2 * U * a * d + (t₁ + t₂) * (d * R)
      go Q n d O E U a c R t₁ t₂ e h k l =
          let e' = simp ring at e in
          let h' = simp ring at h in
          let k' = simp ring at k in
          let l' = simp ring at l in
          simp ring (omega arith)

  plus_down : (Q : ℕ) → Q + n * a ≡ c * d → 2 * U * a * d ≤ Q * (O + n * d * E) + (t₁ + t₂) * (d * R)
  plus_down Q e = go Q n d O E U a c R t₁ t₂ (ap (λ (z : ℕ). z * (O + n * d * E)) e) (mul-le-mul_left d down₁) (mul-le-mul_left n down₂) rest_le
    where
      go : (Q n d O E U a c R t₁ t₂ : ℕ) → (Q + n * a) * (O + n * d * E) ≡ c * d * (O + n * d * E) → d * (a * (2 * U + n * n * E)) ≤ d * (c * O + t₁ * R) → n * (a * O) ≤ n * (c * (d * d * E) + t₂ * R) → n * (t₂ * R) ≤ d * (t₂ * R)
          → 2 * U * a * d ≤ Q * (O + n * d * E) + (t₁ + t₂) * (d * R)
      go Q n d O E U a c R t₁ t₂ e h k l =
          let e' = simp ring at e in
          let h' = simp ring at h in
          let k' = simp ring at k in
          let l' = simp ring at l in
          simp ring (omega arith)

  minus_up : (S : ℕ) → S + n * d * E ≡ O → (c * d + n * a) * S ≤ 2 * U * a * d + (t₁ + t₂) * (d * R)
  minus_up S e = go S n d O E U a c R t₁ t₂ (ap (λ (z : ℕ). (c * d + n * a) * z) e) (mul-le-mul_left d up₁) (mul-le-mul_left n down₂) rest_le
    where
      go : (S n d O E U a c R t₁ t₂ : ℕ) → (c * d + n * a) * (S + n * d * E) ≡ (c * d + n * a) * O → d * (c * O) ≤ d * (a * (2 * U + n * n * E) + t₁ * R) → n * (a * O) ≤ n * (c * (d * d * E) + t₂ * R) → n * (t₂ * R) ≤ d * (t₂ * R)
          → (c * d + n * a) * S ≤ 2 * U * a * d + (t₁ + t₂) * (d * R)
      go S n d O E U a c R t₁ t₂ e h k l =
          let e' = simp ring at e in
          let h' = simp ring at h in
          let k' = simp ring at k in
          let l' = simp ring at l in
          simp ring (omega arith)

  minus_down : (S : ℕ) → S + n * d * E ≡ O → 2 * U * a * d ≤ (c * d + n * a) * S + (t₁ + t₂) * (d * R)
  minus_down S e = go S n d O E U a c R t₁ t₂ (ap (λ (z : ℕ). (c * d + n * a) * z) e) (mul-le-mul_left d down₁) (mul-le-mul_left n up₂) rest_le
    where
      go : (S n d O E U a c R t₁ t₂ : ℕ) → (c * d + n * a) * (S + n * d * E) ≡ (c * d + n * a) * O → d * (a * (2 * U + n * n * E)) ≤ d * (c * O + t₁ * R) → n * (c * (d * d * E)) ≤ n * (a * O + t₂ * R) → n * (t₂ * R) ≤ d * (t₂ * R)
          → 2 * U * a * d ≤ (c * d + n * a) * S + (t₁ + t₂) * (d * R)
      go S n d O E U a c R t₁ t₂ e h k l =
          let e' = simp ring at e in
          let h' = simp ring at h in
          let k' = simp ring at k in
          let l' = simp ring at l in
          simp ring (omega arith)

-- ---- the quotient's numbers A and D against U and S, in units W; v a / (16 ..) is A, v Q / (16 ..) twice D
module _ (A D S U Q a v d W X B : ℕ) (P : 0 < W) (D-lo : 2 * D * W ≤ v * Q + 4 * W) (D-hi : v * Q ≤ 2 * D * W + 14 * W) (A-lo : A * X ≤ v * a) (A-hi : v * a ≤ (A + 5) * X) (unit : d * X ≡ W) (up : Q * S ≤ 2 * U * a * d + B) (down : 2 * U * a * d ≤ Q * S + B) (tiny : v * B ≤ 2500 * U * W) where
  near_up : 2 * D * S ≤ 2 * A * U + 2510 * U + 4 * S
  near_up = le_of_mul-le-mul_right {k = W} (go A D S U Q a v d W X B (mul-le-mul_right S D-lo) (mul-le-mul_left v up) (mul-le-mul_left (2 * U * d) A-hi) (ap (λ (z : ℕ). 2 * U * (A + 5) * z) unit) tiny) P
    where
      go : (A D S U Q a v d W X B : ℕ) → 2 * D * W * S ≤ (v * Q + 4 * W) * S → v * (Q * S) ≤ v * (2 * U * a * d + B) → 2 * U * d * (v * a) ≤ 2 * U * d * ((A + 5) * X) → 2 * U * (A + 5) * (d * X) ≡ 2 * U * (A + 5) * W → v * B ≤ 2500 * U * W
          → 2 * D * S * W ≤ (2 * A * U + 2510 * U + 4 * S) * W
      go A D S U Q a v d W X B h i j e t =
          let h' = simp ring at h in
          let i' = simp ring at i in
          let j' = simp ring at j in
          let e' = simp ring at e in
          let t' = simp ring at t in
          simp ring (omega arith)

  near_down : 2 * A * U ≤ 2 * D * S + 14 * S + 2500 * U
  near_down = le_of_mul-le-mul_right {k = W} (go A D S U Q a v d W X B (mul-le-mul_right S D-hi) (mul-le-mul_left v down) (mul-le-mul_left (2 * U * d) A-lo) (ap (λ (z : ℕ). 2 * U * A * z) unit) tiny) P
    where
      go : (A D S U Q a v d W X B : ℕ) → v * Q * S ≤ (2 * D * W + 14 * W) * S → v * (2 * U * a * d) ≤ v * (Q * S + B) → 2 * U * d * (A * X) ≤ 2 * U * d * (v * a) → 2 * U * A * (d * X) ≡ 2 * U * A * W → v * B ≤ 2500 * U * W
          → 2 * A * U * W ≤ (2 * D * S + 14 * S + 2500 * U) * W
      go A D S U Q a v d W X B h i j e t =
          let h' = simp ring at h in
          let i' = simp ring at i in
          let j' = simp ring at j in
          let e' = simp ring at e in
          let t' = simp ring at t in
          simp ring (omega arith)

  -- the ratio is below 2
  module _ (D-least : 3 * 2 ^ 61 ≤ D) (A-most : A ≤ 2 ^ 63) where
    pub ratio_le : S ≤ 2 * U
    ratio_le = go (D * S) (A * U) S U (le_trans (le_of_eq (sym (mul_assoc 2 D S))) (le_trans near_up (le_of_eq (ap (λ (z : ℕ). z + 2510 * U + 4 * S) (mul_assoc 2 A U))))) (mul-le-mul_right S D-least) (mul-le-mul_right U A-most)
      where
        first : (x y S U : ℕ) → 2 * x ≤ 2 * y + 2510 * U + 4 * S → 3 * 2 ^ 61 * S ≤ x → y ≤ 2 ^ 63 * U → S * (3 * 2 ^ 62 - 4) ≤ (2 ^ 64 + 2510) * U
        first x y S U h k l = omega arith

        go : (x y S U : ℕ) → 2 * x ≤ 2 * y + 2510 * U + 4 * S → 3 * 2 ^ 61 * S ≤ x → y ≤ 2 ^ 63 * U → S ≤ 2 * U
        go x y S U h k l = le_of_mul-le-mul_right {k = 3 * 2 ^ 62 - 4} (le_trans (first x y S U h k l) (le_trans (mul-le-mul_right U (lit≤ {m = 2 ^ 64 + 2510} {n = 2 * (3 * 2 ^ 62 - 4)} tt)) (le_of_eq (turn U (3 * 2 ^ 62 - 4))))) (lit< tt)
          where
            turn : (U k : ℕ) → 2 * k * U ≡ 2 * U * k
            turn U k = simp (mul_assoc, mul_comm, mul_left_comm)

    pub quotient_up : 2 * D * S ≤ 2 * A * U + 2518 * U
    quotient_up = go (2 * D * S) (2 * A * U) S U near_up ratio_le
      where
        go : (x y S U : ℕ) → x ≤ y + 2510 * U + 4 * S → S ≤ 2 * U → x ≤ y + 2518 * U
        go x y S U h k = omega arith

    pub quotient_down : 2 * A * U ≤ 2 * D * S + 2528 * U
    quotient_down = go (2 * D * S) (2 * A * U) S U near_down ratio_le
      where
        go : (x y S U : ℕ) → y ≤ x + 14 * S + 2500 * U → S ≤ 2 * U → y ≤ x + 2528 * U
        go x y S U h k = omega arith

-- ---- the second number: C less or more h, half of s A
module _ (C H h n a c v d W : ℕ) (C-lo : 2 * C * W ≤ v * (c * d)) (C-hi : v * (c * d) ≤ 2 * (C + 5) * W) (H-lo : H * W ≤ n * (v * a)) (H-hi : n * (v * a) ≤ (H + 3) * W) (h_lo : 2 * h ≤ H) (h_hi : H ≤ 2 * h + 1) where
  half_lo : 2 * h * W ≤ n * (v * a)
  half_lo = le_trans (mul-le-mul_right W h_lo) H-lo

  half_hi : n * (v * a) ≤ (2 * h + 4) * W
  half_hi = le_trans H-hi (mul-le-mul_right W (go H h h_hi))
    where
      go : (H h : ℕ) → H ≤ 2 * h + 1 → H + 3 ≤ 2 * h + 4
      go H h k = omega arith

  less_lo : (D Q : ℕ) → D + h ≡ C → Q + n * a ≡ c * d → 2 * D * W ≤ v * Q + 4 * W
  less_lo D Q p q = go D Q C h n a c v d W (ap (λ (z : ℕ). 2 * z * W) p) (ap (λ (z : ℕ). v * z) q) C-lo half_hi
    where
      go : (D Q C h n a c v d W : ℕ) → 2 * (D + h) * W ≡ 2 * C * W → v * (Q + n * a) ≡ v * (c * d) → 2 * C * W ≤ v * (c * d) → n * (v * a) ≤ (2 * h + 4) * W → 2 * D * W ≤ v * Q + 4 * W
      go D Q C h n a c v d W p q k l =
          let p' = simp ring at p in
          let q' = simp ring at q in
          let k' = simp ring at k in
          let l' = simp ring at l in
          simp ring (omega arith)

  less_hi : (D Q : ℕ) → D + h ≡ C → Q + n * a ≡ c * d → v * Q ≤ 2 * D * W + 14 * W
  less_hi D Q p q = go D Q C h n a c v d W (ap (λ (z : ℕ). 2 * z * W) p) (ap (λ (z : ℕ). v * z) q) C-hi half_lo
    where
      go : (D Q C h n a c v d W : ℕ) → 2 * (D + h) * W ≡ 2 * C * W → v * (Q + n * a) ≡ v * (c * d) → v * (c * d) ≤ 2 * (C + 5) * W → 2 * h * W ≤ n * (v * a) → v * Q ≤ 2 * D * W + 14 * W
      go D Q C h n a c v d W p q k l =
          let p' = simp ring at p in
          let q' = simp ring at q in
          let k' = simp ring at k in
          let l' = simp ring at l in
          simp ring (omega arith)

  more_lo : 2 * (C + h) * W ≤ v * (c * d + n * a) + 4 * W
  more_lo = go C h n a c v d W C-lo half_lo
    where
      go : (C h n a c v d W : ℕ) → 2 * C * W ≤ v * (c * d) → 2 * h * W ≤ n * (v * a) → 2 * (C + h) * W ≤ v * (c * d + n * a) + 4 * W
      go C h n a c v d W k l =
          let k' = simp ring at k in
          let l' = simp ring at l in
          simp ring (omega arith)

  more_hi : v * (c * d + n * a) ≤ 2 * (C + h) * W + 14 * W
  more_hi = go C h n a c v d W C-hi half_hi
    where
      go : (C h n a c v d W : ℕ) → v * (c * d) ≤ 2 * (C + 5) * W → n * (v * a) ≤ (2 * h + 4) * W → v * (c * d + n * a) ≤ 2 * (C + h) * W + 14 * W
      go C h n a c v d W k l =
          let k' = simp ring at k in
          let l' = simp ring at l in
          simp ring (omega arith)

-- ---- factors of a bound by 2 d
twice_left : (C d X : ℕ) → 2 * C * (d * X) ≡ 2 * d * (C * X)
twice_left C d X = simp (mul_assoc, mul_comm, mul_left_comm)

twice_right : (v d b : ℕ) → 2 * d * (v * b) ≡ v * (2 * b * d)
twice_right v d b = simp (mul_assoc, mul_comm, mul_left_comm)

-- ---- the argument s / 2 ^ 64 of n / d, and its square
module _ (s n d : ℕ) (lo : s * d ≤ n * 2 ^ 64) (hi : n * 2 ^ 64 ≤ (s + 1) * d) (quarter : 4 * n ≤ d) (D : 0 < d) where
  abbrev q : ℕ
  q = s * s / 2 ^ 64

  s_le : s ≤ 2 ^ 62
  s_le = le_of_mul-le-mul_right {k = d} (le_trans lo (go n d quarter)) D
    where
      go : (n d : ℕ) → 4 * n ≤ d → n * 2 ^ 64 ≤ 2 ^ 62 * d
      go n d h = omega arith

  square_lo : q * (d * d) ≤ n * n * 2 ^ 64
  square_lo = le_of_mul-le-mul_right {k = 2 ^ 64} (le_trans (le_of_eq (a q d (2 ^ 64))) (le_trans (mul-le-mul_right (d * d) (div-mul-le_self (s * s) (2 ^ 64))) (le_trans (le_of_eq (b s d)) (le_trans (mul-le-mul lo lo) (le_of_eq (c n (2 ^ 64))))))) (lit< tt)
    where
      a : (q d u : ℕ) → q * (d * d) * u ≡ q * u * (d * d)
      a q d u = simp (mul_assoc, mul_comm, mul_left_comm)

      b : (s d : ℕ) → s * s * (d * d) ≡ s * d * (s * d)
      b s d = simp (mul_assoc, mul_comm, mul_left_comm)

      c : (n u : ℕ) → n * u * (n * u) ≡ n * n * u * u
      c n u = simp (mul_assoc, mul_comm, mul_left_comm)

  square_hi : n * n * 2 ^ 64 ≤ (q + 2) * (d * d)
  square_hi = le_of_mul-le-mul_right {k = 2 ^ 64} (le_trans (le_of_eq (sym (c n (2 ^ 64)))) (le_trans (mul-le-mul hi hi) (le_trans (le_of_eq (b (s + 1) d)) (le_trans (mul-le-mul_right (d * d) (e s s_le)) (le_of_eq (a (q + 2) d (2 ^ 64))))))) (lit< tt)
    where
      c : (n u : ℕ) → n * u * (n * u) ≡ n * n * u * u
      c n u = simp (mul_assoc, mul_comm, mul_left_comm)

      b : (s d : ℕ) → s * d * (s * d) ≡ s * s * (d * d)
      b s d = simp (mul_assoc, mul_comm, mul_left_comm)

      a : (q d u : ℕ) → q * u * (d * d) ≡ q * (d * d) * u
      a q d u = simp (mul_assoc, mul_comm, mul_left_comm)

      e : (s : ℕ) → s ≤ 2 ^ 62 → (s + 1) * (s + 1) ≤ (s * s / 2 ^ 64 + 2) * 2 ^ 64
      e s h = go (s * s) s ((s + 1) * (s + 1)) (parts s) h
        where
          parts : (s : ℕ) → (s + 1) * (s + 1) ≡ s * s + 2 * s + 1
          parts s = simp (ring, one-mul, mul-one) (omega arith)

          go : (x s z : ℕ) → z ≡ x + 2 * s + 1 → s ≤ 2 ^ 62 → z ≤ (x / 2 ^ 64 + 2) * 2 ^ 64
          go x s z e h = omega arith

  sixteen : 16 * (n * n) ≤ d * d
  sixteen = le_trans (le_of_eq (a n)) (mul-le-mul quarter quarter)
    where
      a : (n : ℕ) → 16 * (n * n) ≡ 4 * n * (4 * n)
      a n = simp (mul_assoc, mul_comm, mul_left_comm) (omega arith)

  q_small : q ≤ 2 ^ 63
  q_small = le_trans (div-le_of_le-mul (2 ^ 64) (le_trans (mul-le-mul s_le s_le) (lit≤ tt))) (lit≤ {m = 2 ^ 60} {n = 2 ^ 63} tt)

  square_pos : 0 < d * d
  square_pos = mul-pos D D

  -- ---- the numbers of the quotient
  abbrev A : ℕ
  A = horner over_terms q

  abbrev C : ℕ
  C = horner under_terms q

  abbrev H : ℕ
  H = s * A / 2 ^ 64

  abbrev v : ℕ
  v = 2 ^ 53 + 1

  abbrev a : ℕ
  a = square 15120 420 1 (n * n) (d * d)

  abbrev c : ℕ
  c = square 30240 3360 30 (n * n) (d * d)

  abbrev X : ℕ
  X = 16 * (d * d * (d * d))

  abbrev W : ℕ
  W = d * X

  abbrev U : ℕ
  U = K * (d * d) ^ 14

  abbrev O : ℕ
  O = hom (skips 1 15) (n * n) (d * d)

  abbrev E : ℕ
  E = hom (skips 2 14) (n * n) (d * d)

  W-pos : 0 < W
  W-pos = mul-pos D (mul-pos (lit< tt) (mul-pos square_pos square_pos))

  A-lo : A * X ≤ v * a
  A-lo = le_trans (le_of_eq (sym (mul_assoc A 16 (d * d * (d * d))))) (over_lo q (n * n) (d * d) square_lo square_hi sixteen q_small square_pos)

  A-hi : v * a ≤ (A + 5) * X
  A-hi = le_trans (over_hi q (n * n) (d * d) square_lo square_hi sixteen q_small square_pos) (le_of_eq (mul_assoc (A + 5) 16 (d * d * (d * d))))

  twice : c ≡ 2 * square 15120 1680 15 (n * n) (d * d)
  twice = go (d * d * (d * d)) (n * n * (d * d)) (n * n * (n * n))
    where
      go : (x y z : ℕ) → 30240 * x + 3360 * y + 30 * z ≡ 2 * (15120 * x + 1680 * y + 15 * z)
      go x y z = omega arith

  C-lo : 2 * C * W ≤ v * (c * d)
  C-lo = go C v d X c (square 15120 1680 15 (n * n) (d * d)) (le_trans (le_of_eq (sym (mul_assoc C 16 (d * d * (d * d))))) (under_lo q (n * n) (d * d) square_lo square_hi sixteen q_small square_pos)) twice
    where
      go : (C v d X c b : ℕ) → C * X ≤ v * b → c ≡ 2 * b → 2 * C * (d * X) ≤ v * (c * d)
      go C v d X c b h e = le_trans (le_of_eq (twice_left C d X)) (le_trans (mul-le-mul_left (2 * d) h) (le_of_eq (twice_right v d b ∙ ap (λ (z : ℕ). v * (z * d)) (sym e))))

  C-hi : v * (c * d) ≤ 2 * (C + 5) * W
  C-hi = go (C + 5) v d X c (square 15120 1680 15 (n * n) (d * d)) (le_trans (under_hi q (n * n) (d * d) square_lo square_hi sixteen q_small square_pos) (le_of_eq (mul_assoc (C + 5) 16 (d * d * (d * d))))) twice
    where
      go : (C v d X c b : ℕ) → v * b ≤ C * X → c ≡ 2 * b → v * (c * d) ≤ 2 * C * (d * X)
      go C v d X c b h e = le_trans (le_of_eq (ap (λ (z : ℕ). v * (z * d)) e ∙ sym (twice_right v d b))) (le_trans (mul-le-mul_left (2 * d) h) (le_of_eq (sym (twice_left C d X))))

  A-most : A ≤ 2 ^ 63
  A-most = over_most q (square_le s s_le)

  H-lo : H * W ≤ n * (v * a)
  H-lo = le_of_mul-le-mul_right {k = 2 ^ 64} (le_trans (le_of_eq (l H d X (2 ^ 64))) (le_trans (mul-le-mul_right (d * X) (div-mul-le_self (s * A) (2 ^ 64))) (le_trans (le_of_eq (m s A d X)) (le_trans (mul-le-mul lo A-lo) (le_of_eq (r n (2 ^ 64) v a)))))) (lit< tt)
    where
      l : (H d X w : ℕ) → H * (d * X) * w ≡ H * w * (d * X)
      l H d X w = simp (mul_assoc, mul_comm, mul_left_comm)

      m : (s A d X : ℕ) → s * A * (d * X) ≡ s * d * (A * X)
      m s A d X = simp (mul_assoc, mul_comm, mul_left_comm)

      r : (n w v a : ℕ) → n * w * (v * a) ≡ n * (v * a) * w
      r n w v a = simp (mul_assoc, mul_comm, mul_left_comm)

  H-hi : n * (v * a) ≤ (H + 3) * W
  H-hi = le_of_mul-le-mul_right {k = 2 ^ 64} (le_trans (le_of_eq (sym (r n (2 ^ 64) v a))) (le_trans (mul-le-mul hi A-hi) (le_trans (le_of_eq (m (s + 1) (A + 5) d X)) (le_trans (mul-le-mul_right (d * X) (room s A s_le A-most)) (le_of_eq (sym (l (H + 3) d X (2 ^ 64)))))))) (lit< tt)
    where
      l : (H d X w : ℕ) → H * (d * X) * w ≡ H * w * (d * X)
      l H d X w = simp (mul_assoc, mul_comm, mul_left_comm)

      m : (s A d X : ℕ) → s * d * (A * X) ≡ s * A * (d * X)
      m s A d X = simp (mul_assoc, mul_comm, mul_left_comm)

      r : (n w v a : ℕ) → n * w * (v * a) ≡ n * (v * a) * w
      r n w v a = simp (mul_assoc, mul_comm, mul_left_comm)

      room : (s A : ℕ) → s ≤ 2 ^ 62 → A ≤ 2 ^ 63 → (s + 1) * (A + 5) ≤ (s * A / 2 ^ 64 + 3) * 2 ^ 64
      room s A k l = lin (s * A) s A ((s + 1) * (A + 5)) (parts s A) k l
        where
          parts : (s A : ℕ) → (s + 1) * (A + 5) ≡ s * A + s * 5 + A + 5
          parts s A = simp (ring, one-mul) (omega arith)

          lin : (x s A z : ℕ) → z ≡ x + s * 5 + A + 5 → s ≤ 2 ^ 62 → A ≤ 2 ^ 63 → z ≤ (x / 2 ^ 64 + 3) * 2 ^ 64
          lin x s A z e k l = omega arith

  h_lo : 2 * (H / 2) ≤ H
  h_lo = go H
    where
      go : (H : ℕ) → 2 * (H / 2) ≤ H
      go H = omega arith

  h_hi : H ≤ 2 * (H / 2) + 1
  h_hi = go H
    where
      go : (H : ℕ) → H ≤ 2 * (H / 2) + 1
      go H = omega arith

  -- ---- Padé's rests, against U W
  abbrev B : ℕ
  B = (25562866107828088139 + 12715276537575291632) * (d * (d * d) ^ 16)

  tiny : v * B ≤ 2500 * U * W
  tiny = le_trans (le_of_eq (ap (λ (z : ℕ). v * ((25562866107828088139 + 12715276537575291632) * (d * z))) (pow-suc (d * d) 15 ∙ ap (λ (z : ℕ). z * (d * d)) (pow-suc (d * d) 14)) ∙ l v (25562866107828088139 + 12715276537575291632) d (d * d) ((d * d) ^ 14))) (le_trans (mul-le-mul_right (d * ((d * d) ^ 14 * (d * d) * (d * d))) (lit≤ {m = v * (25562866107828088139 + 12715276537575291632)} {n = 2500 * K * 16} tt)) (le_of_eq (r 2500 K 16 d (d * d) ((d * d) ^ 14))))
    where
      l : (v t d e p : ℕ) → v * (t * (d * (p * e * e))) ≡ v * t * (d * (p * e * e))
      l v t d e p = sym (mul_assoc v t (d * (p * e * e)))

      r : (k K g d e p : ℕ) → k * K * g * (d * (p * e * e)) ≡ k * (K * p) * (d * (g * (e * e)))
      r k K g d e p = simp (mul_assoc, mul_comm, mul_left_comm)

  less : n ≤ d
  less = go n d quarter
    where
      go : (n d : ℕ) → 4 * n ≤ d → n ≤ d
      go n d h = omega arith

  two_U : (x : ℕ) → a * (2 * K * (d * d) ^ 14 + x) ≡ a * (2 * U + x)
  two_U x = ap (λ (z : ℕ). a * (z + x)) (mul_assoc 2 K ((d * d) ^ 14))

  up₁ : c * O ≤ a * (2 * U + n * n * E) + 25562866107828088139 * (d * d) ^ 16
  up₁ = le_trans (first_up (n * n) (d * d) sixteen square_pos) (le_of_eq (ap (λ (z : ℕ). z + 25562866107828088139 * (d * d) ^ 16) (two_U (n * n * E))))

  down₁ : a * (2 * U + n * n * E) ≤ c * O + 25562866107828088139 * (d * d) ^ 16
  down₁ = le_trans (le_of_eq (sym (two_U (n * n * E)))) (first_down (n * n) (d * d) sixteen square_pos)

  up₂ : c * (d * d * E) ≤ a * O + 12715276537575291632 * (d * d) ^ 16
  up₂ = second_up (n * n) (d * d) sixteen square_pos

  down₂ : a * O ≤ c * (d * d * E) + 12715276537575291632 * (d * d) ^ 16
  down₂ = second_down (n * n) (d * d) sixteen square_pos

  -- what the quotient A / D knows of S / U
  abbrev pub Known : ℕ → ℕ → Type 0
  Known D S = (S ≤ 2 * U) × (2 * D * S ≤ 2 * A * U + 2518 * U) × (2 * A * U ≤ 2 * D * S + 2528 * U)

  known : (D Q S : ℕ) → 3 * 2 ^ 61 ≤ D → 2 * D * W ≤ v * Q + 4 * W → v * Q ≤ 2 * D * W + 14 * W → Q * S ≤ 2 * U * a * d + B → 2 * U * a * d ≤ Q * S + B → Known D S
  known D Q S l i j k m = (ratio_le A D S U Q a v d W X B W-pos i j A-lo A-hi refl k m tiny l A-most, quotient_up A D S U Q a v d W X B W-pos i j A-lo A-hi refl k m tiny l A-most, quotient_down A D S U Q a v d W X B W-pos i j A-lo A-hi refl k m tiny l A-most)

  -- above 0, where D = C - h
  pub known_plus : (D : ℕ) → D + H / 2 ≡ C → 3 * 2 ^ 61 ≤ D → Known D (O + n * d * E)
  known_plus D e l =
      let Q = c * d - n * a in
      let Q-is : Q + n * a ≡ c * d = sub-add_cancel fits in
      known D Q (O + n * d * E) l
      (less_lo C H (H / 2) n a c v d W C-lo C-hi H-lo H-hi h_lo h_hi D Q e Q-is)
      (less_hi C H (H / 2) n a c v d W C-lo C-hi H-lo H-hi h_lo h_hi D Q e Q-is)
      (plus_up n d O E U a c ((d * d) ^ 16) 25562866107828088139 12715276537575291632 up₁ down₁ up₂ down₂ less Q Q-is)
      (plus_down n d O E U a c ((d * d) ^ 16) 25562866107828088139 12715276537575291632 up₁ down₁ up₂ down₂ less Q Q-is)
    where
      fits : n * a ≤ c * d
      fits = le_trans (mul-le-mul less (go (d * d * (d * d)) (n * n * (d * d)) (n * n * (n * n)))) (le_of_eq (mul_comm d c))
        where
          go : (x y z : ℕ) → 15120 * x + 420 * y + 1 * z ≤ 30240 * x + 3360 * y + 30 * z
          go x y z = omega arith

  -- below 0, where D = C + h
  pub known_minus : (S : ℕ) → S + n * d * E ≡ O → 3 * 2 ^ 61 ≤ C + H / 2 → Known (C + H / 2) S
  known_minus S e l =
      known (C + H / 2) (c * d + n * a) S l
      (more_lo C H (H / 2) n a c v d W C-lo C-hi H-lo H-hi h_lo h_hi)
      (more_hi C H (H / 2) n a c v d W C-lo C-hi H-lo H-hi h_lo h_hi)
      (minus_up n d O E U a c ((d * d) ^ 16) 25562866107828088139 12715276537575291632 up₁ down₁ up₂ down₂ less S e)
      (minus_down n d O E U a c ((d * d) ^ 16) 25562866107828088139 12715276537575291632 up₁ down₁ up₂ down₂ less S e)

  -- the ratio is not below 0
  pub even_fits : n * d * E ≤ O
  even_fits = go (n * d * E) (d * d * E) O ((d * d) ^ 14) (le_trans (le_of_eq (turn n d E)) (le_trans (mul-le-mul_right (d * E) quarter) (le_of_eq (sym (mul_assoc d d E))))) (even_le (n * n) (d * d) sixteen square_pos) (le_trans (one ((d * d) ^ 14)) (odd_least (n * n) (d * d) sixteen square_pos))
    where
      turn : (n d e : ℕ) → 4 * (n * d * e) ≡ 4 * n * (d * e)
      turn n d e = simp (mul_assoc, mul_comm, mul_left_comm)

      one : (p : ℕ) → p ≤ K * p
      one p = le_trans (le_of_eq (sym (one-mul p))) (mul-le-mul_right p (lit≤ {m = 1} {n = K} tt))

      go : (x y o p : ℕ) → 4 * x ≤ y → y ≤ o + 1 * p → p ≤ o → x ≤ o
      go x y o p h k l = omega arith
