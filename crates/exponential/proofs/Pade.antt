-- Padé's fraction of exp against document 01's thirty terms: two identities of polynomials in z = n n / (d d), but for tiny rests. Assumes nothing.
use mathlib.Core.Path.{◌≡◌, refl, sym, ap, ◌∙◌}
use mathlib.Core.List.{List, [], ◌∷◌}
use Prim.Native.Nat.{ℕ, suc, ◌+◌, ◌-◌, ◌*◌, ◌/◌, ◌^◌, ◌≤◌, ◌<◌}
use native.Mathlib.Nat.{mul_assoc, mul_comm, mul_left_comm, mul-zero, zero-mul, one-mul, mul-one, add-zero, zero-add, add-le-add, le_refl, le_trans, le_of_eq, mul-le-mul_left, mul-le-mul_right, le_of_mul-le-mul_right, pow-suc, pow-zero}
use native.Mathlib.Omega.{arith}
use lib.Dec.{lit≤}
use lib.ListN.{length}
use Rattle.series.specs.Sums.{factorial}
use Rattle.fixed_point.proofs.Polynomial.{hom}
use Rattle.fixed_point.proofs.Horner.{ring}
use Rattle.exponential.proofs.Terms.{K}
use Rattle.exponential.proofs.SmallTerms.{skips}

-- ---- a polynomial times f + g z + h z ^ 2; x and y are the two coefficients before
abbrev times : ℕ → ℕ → ℕ → ℕ → ℕ → List ℕ → List ℕ
times f g h x y [] = (g * x + h * y) ∷ (h * x) ∷ []
times f g h x y (p ∷ ps) = (f * p + g * x + h * y) ∷ times f g h p x ps

times_length : (f g h x y : ℕ) (ps : List ℕ) → length (times f g h x y ps) ≡ suc (suc (length ps))
times_length f g h x y [] = refl
times_length f g h x y (p ∷ ps) = ap suc (times_length f g h p x ps)

module _ (f g h n d : ℕ) where
  abbrev pub square : ℕ
  square = f * (d * d) + g * (n * d) + h * (n * n)

  times_at : (x y : ℕ) (ps : List ℕ) → hom (times f g h x y ps) n d ≡ square * hom ps n d + (g * x + h * y) * (d ^ length ps * d) + h * x * (n * d ^ length ps)
  unfolding hom
  times_at x y [] = go f g h x y n d (pow-suc d 0 ∙ ap (λ (z : ℕ). z * d) (pow-zero d)) (pow-zero d)
    where
      go : (f g h x y n d : ℕ) → d ^ 1 ≡ 1 * d → d ^ 0 ≡ 1 → (g * x + h * y) * d ^ 1 + n * (h * x * d ^ 0 + n * 0) ≡ (f * (d * d) + g * (n * d) + h * (n * n)) * 0 + (g * x + h * y) * (d ^ 0 * d) + h * x * (n * d ^ 0)
      go f g h x y n d p q = rw (p, q) (simp (ring, mul-zero, zero-mul, one-mul, mul-one, add-zero, zero-add))
  times_at x y (p ∷ ps) =
      ap (λ (l : ℕ). (f * p + g * x + h * y) * d ^ l + n * hom (times f g h p x ps) n d) (times_length f g h p x ps)
      ∙ ap (λ (z : ℕ). (f * p + g * x + h * y) * z + n * hom (times f g h p x ps) n d) (pow-suc d (suc (length ps)) ∙ ap (λ (z : ℕ). z * d) (pow-suc d (length ps)))
      ∙ ap (λ (z : ℕ). (f * p + g * x + h * y) * (d ^ length ps * d * d) + n * z) (times_at p x ps)
      ∙ go f g h x y n d p (d ^ length ps) (hom ps n d)
      ∙ ap (λ (z : ℕ). square * (p * d ^ length ps + n * hom ps n d) + (g * x + h * y) * (z * d) + h * x * (n * z)) (sym (pow-suc d (length ps)))
    where
      go : (f g h x y n d p D H : ℕ) → (f * p + g * x + h * y) * (D * d * d) + n * ((f * (d * d) + g * (n * d) + h * (n * n)) * H + (g * p + h * x) * (D * d) + h * p * (n * D))
          ≡ (f * (d * d) + g * (n * d) + h * (n * n)) * (p * D + n * H) + (g * x + h * y) * (D * d * d) + h * x * (n * (D * d))
      go f g h x y n d p D H = simp ring

  pub times_is : (ps : List ℕ) → hom (times f g h 0 0 ps) n d ≡ square * hom ps n d
  times_is ps = times_at 0 0 ps ∙ go (square * hom ps n d) g h (d ^ length ps * d) (n * d ^ length ps)
    where
      go : (z g h x y : ℕ) → z + (g * 0 + h * 0) * x + h * 0 * y ≡ z
      go z g h x y = simp (mul-zero, zero-mul, add-zero)

-- one coefficient 0 more at the end
abbrev longer : List ℕ → List ℕ
longer [] = 0 ∷ []
longer (p ∷ ps) = p ∷ longer ps

longer_length : (ps : List ℕ) → length (longer ps) ≡ suc (length ps)
longer_length [] = refl
longer_length (p ∷ ps) = ap suc (longer_length ps)

longer_is : (n d : ℕ) (ps : List ℕ) → hom (longer ps) n d ≡ d * hom ps n d
unfolding hom
longer_is n d [] = ap (λ (z : ℕ). z + n * 0) (zero-mul (d ^ 0)) ∙ ap (λ (z : ℕ). 0 + z) (mul-zero n) ∙ sym (mul-zero d)
longer_is n d (p ∷ ps) =
    ap (λ (l : ℕ). p * d ^ l + n * hom (longer ps) n d) (longer_length ps)
    ∙ ap (λ (z : ℕ). p * z + n * hom (longer ps) n d) (pow-suc d (length ps))
    ∙ ap (λ (z : ℕ). p * (d ^ length ps * d) + n * z) (longer_is n d ps)
    ∙ go p (d ^ length ps) n d (hom ps n d)
  where
    go : (p D n d H : ℕ) → p * (D * d) + n * (d * H) ≡ d * (p * D + n * H)
    go p D n d H = simp ring

-- ---- how far one polynomial is above another of the same length at most, n / d at most 1/16
abbrev gap : List ℕ → List ℕ → ℕ
gap [] [] = 0
gap [] (q ∷ qs) = 0
gap (p ∷ ps) [] = 0
gap (p ∷ ps) (q ∷ qs) = p - q + (gap ps qs / 16 + 1)

module _ (n d : ℕ) (small : 16 * n ≤ d) where
  gap_le : (ps qs : List ℕ) → length ps ≡ length qs → hom ps n d * d ≤ hom qs n d * d + gap ps qs * d ^ length qs
  unfolding hom
  gap_le [] [] e = le_of_eq (sym (ap (λ (z : ℕ). 0 * d + z) (zero-mul (d ^ 0)) ∙ add-zero (0 * d)))
  gap_le [] (q ∷ qs) e = absurd (none (length qs) e)
    where
      none : (k : ℕ) → 0 ≡ suc k → ⊥
      none k e = omega arith
  gap_le (p ∷ ps) [] e = absurd (none (length ps) e)
    where
      none : (k : ℕ) → suc k ≡ 0 → ⊥
      none k e = omega arith
  gap_le (p ∷ ps) (q ∷ qs) e =
      let l = same (length ps) (length qs) e in
      let t = gap ps qs / 16 + 1 in
      le_trans (le_of_eq (ap (λ (z : ℕ). (p * d ^ z + n * hom ps n d) * d) l))
      (le_trans (one p q (p - q) n d (d ^ length qs) (hom ps n d) (hom qs n d) (gap ps qs) t (over p q) (mul-le-mul_left n (gap_le ps qs l)) (mul-le-mul_right (d ^ length qs) (room n d (gap ps qs) t small (sixteen (gap ps qs)))))
      (le_of_eq (ap (λ (z : ℕ). (q * d ^ length qs + n * hom qs n d) * d + (p - q + t) * z) (sym (pow-suc d (length qs))))))
    where
      same : (a b : ℕ) → suc a ≡ suc b → a ≡ b
      same a b e = omega arith

      over : (p q : ℕ) → p ≤ q + (p - q)
      over p q = omega arith

      sixteen : (g : ℕ) → g ≤ 16 * (g / 16 + 1)
      sixteen g = omega arith

      room : (n d g t : ℕ) → 16 * n ≤ d → g ≤ 16 * t → n * g ≤ t * d
      room n d g t h k = le_trans (mul-le-mul_left n k) (le_trans (le_of_eq (turn n t)) (mul-le-mul_left t h))
        where
          turn : (n t : ℕ) → n * (16 * t) ≡ t * (16 * n)
          turn n t = simp (mul_assoc, mul_comm, mul_left_comm)

      one : (p q r n d D H J g t : ℕ) → p ≤ q + r → n * (H * d) ≤ n * (J * d + g * D) → n * g * D ≤ t * d * D → (p * D + n * H) * d ≤ (q * D + n * J) * d + (r + t) * (D * d)
      one p q r n d D H J g t h i j = go p q r n d D H J g t (mul-le-mul_right (D * d) h) i j
        where
          go : (p q r n d D H J g t : ℕ) → p * (D * d) ≤ (q + r) * (D * d) → n * (H * d) ≤ n * (J * d + g * D) → n * g * D ≤ t * d * D → (p * D + n * H) * d ≤ (q * D + n * J) * d + (r + t) * (D * d)
          go p q r n d D H J g t h i j =
              let h' = simp ring at h in
              let i' = simp ring at i in
              let j' = simp ring at j in
              simp ring (omega arith)

-- ---- the four facts, z = n / d: O is sinh x / x, E is (cosh x - 1) / x ^ 2, U their denominator
module _ (n d : ℕ) (small : 16 * n ≤ d) (D : 0 < d) where
  abbrev O : ℕ
  O = hom (skips 1 15) n d

  abbrev E : ℕ
  E = hom (skips 2 14) n d

  -- twice c, and a
  abbrev c₂ : ℕ
  c₂ = square 30240 3360 30 n d

  abbrev a : ℕ
  a = square 15120 420 1 n d

  -- cosh x + 1
  abbrev more : List ℕ
  more = (2 * K) ∷ skips 2 14

  more_is : hom more n d ≡ 2 * K * d ^ 14 + n * E
  unfolding hom skips
  more_is = refl

  -- without the factor d
  cancel : (x y g k : ℕ) → x * d ≤ y * d + g * d ^ suc k → x ≤ y + g * d ^ k
  cancel x y g k h = le_of_mul-le-mul_right {k = d} (le_trans h (le_of_eq (ap (λ (z : ℕ). y * d + g * z) (pow-suc d k) ∙ go y g d (d ^ k)))) D
    where
      go : (y g d p : ℕ) → y * d + g * (p * d) ≡ (y + g * p) * d
      go y g d p = simp ring

  -- a polynomial over the other, with the gap that is computed
  over : (ps qs : List ℕ) (g k : ℕ) → length ps ≡ length qs → length qs ≡ suc k → gap ps qs ≤ g → hom ps n d ≤ hom qs n d + g * d ^ k
  over ps qs g k e l h = cancel (hom ps n d) (hom qs n d) g k (le_trans (gap_le n d small ps qs e) (le_trans (le_of_eq (ap (λ (k : ℕ). hom qs n d * d + gap ps qs * d ^ k) l)) (add-le-add (le_refl (hom qs n d * d)) (mul-le-mul_right (d ^ suc k) h))))

  first_left : hom (times 30240 3360 30 0 0 (skips 1 15)) n d ≡ c₂ * O
  first_left = times_is 30240 3360 30 n d (skips 1 15)

  first_right : hom (times 15120 420 1 0 0 more) n d ≡ a * (2 * K * d ^ 14 + n * E)
  first_right = times_is 15120 420 1 n d more ∙ ap (λ (z : ℕ). a * z) more_is

  second_left : hom (times 30240 3360 30 0 0 (longer (skips 2 14))) n d ≡ c₂ * (d * E)
  second_left = times_is 30240 3360 30 n d (longer (skips 2 14)) ∙ ap (λ (z : ℕ). c₂ * z) (longer_is n d (skips 2 14))

  second_right : hom (times 15120 420 1 0 0 (skips 1 15)) n d ≡ a * O
  second_right = times_is 15120 420 1 n d (skips 1 15)

  pub first_up : c₂ * O ≤ a * (2 * K * d ^ 14 + n * E) + 25562866107828088139 * d ^ 16
  unfolding skips factorial
  first_up = rw (← first_left, ← first_right) (over (times 30240 3360 30 0 0 (skips 1 15)) (times 15120 420 1 0 0 more) 25562866107828088139 16 refl refl (lit≤ tt))

  pub first_down : a * (2 * K * d ^ 14 + n * E) ≤ c₂ * O + 25562866107828088139 * d ^ 16
  unfolding skips factorial
  first_down = rw (← first_left, ← first_right) (over (times 15120 420 1 0 0 more) (times 30240 3360 30 0 0 (skips 1 15)) 25562866107828088139 16 refl refl (lit≤ tt))

  pub second_up : c₂ * (d * E) ≤ a * O + 12715276537575291632 * d ^ 16
  unfolding skips factorial
  second_up = rw (← second_left, ← second_right) (over (times 30240 3360 30 0 0 (longer (skips 2 14))) (times 15120 420 1 0 0 (skips 1 15)) 12715276537575291632 16 refl refl (lit≤ tt))

  pub second_down : a * O ≤ c₂ * (d * E) + 12715276537575291632 * d ^ 16
  unfolding skips factorial
  second_down = rw (← second_left, ← second_right) (over (times 15120 420 1 0 0 (skips 1 15)) (times 30240 3360 30 0 0 (longer (skips 2 14))) 12715276537575291632 16 refl refl (lit≤ tt))

  -- cosh x - 1 is below x sinh x
  pub even_le : d * E ≤ O + 1 * d ^ 14
  unfolding skips factorial
  even_le = rw (← longer_is n d (skips 2 14)) (over (longer (skips 2 14)) (skips 1 15) 1 14 refl refl (lit≤ tt))

  pub odd_least : K * d ^ 14 ≤ O
  unfolding hom skips factorial
  odd_least = more_than (K * d ^ 14) _
    where
      more_than : (x y : ℕ) → x ≤ x + y
      more_than x y = omega arith
