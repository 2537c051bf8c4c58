-- Document 01's thirty terms of exp at ± n / d with even and odd powers apart, as polynomials in n n and d d. Assumes nothing.
use mathlib.Core.Path.{◌≡◌, refl, sym, ap, ◌∙◌}
use mathlib.Core.List.{List, [], ◌∷◌}
use Prim.Native.Nat.{ℕ, zero, suc, ◌+◌, ◌*◌, ◌/◌, ◌^◌}
use native.Mathlib.Nat.{mul_assoc, mul_comm, mul_left_comm, mul-zero, zero-mul, one-mul, add-zero, zero-add, pow-suc, pow-zero}
use lib.ListN.{length}
use Rattle.series.specs.Sums.{factorial}
use Rattle.fixed_point.proofs.Polynomial.{hom}
use Rattle.fixed_point.proofs.Horner.{ring}
use Rattle.exponential.proofs.Terms.{K, up, turn, sum, all_terms, both_terms}

-- 29! / i!, 29! / (i + 2)!, .., m of them
unfoldable pub skips : ℕ → ℕ → List ℕ
skips i zero = []
skips i (suc m) = K / factorial i ∷ skips (suc (suc i)) m

skips_length : (i m : ℕ) → length (skips i m) ≡ m
unfolding skips
skips_length i zero = refl
skips_length i (suc m) = ap suc (skips_length (suc (suc i)) m)

abbrev twice : ℕ → ℕ
twice zero = zero
twice (suc m) = suc (suc (twice m))

module _ (n d : ℕ) where
  abbrev walk : ℕ → ℕ → ℕ → ℕ → ℕ → ℕ × ℕ
  walk k i p a b = turn (λ (x : ℕ). n * x) (λ (x : ℕ). d * x) sum k i p a b

  last_sign : (m i p a b : ℕ) → (walk (twice m) i p a b).0 ≡ (d * d) ^ m * a + n * n * p * hom (skips (suc i) m) (n * n) (d * d)
  unfolding turn hom skips
  last_sign zero i p a b = sym (ap (λ (z : ℕ). z * a + n * n * p * 0) (pow-zero (d * d)) ∙ ap (λ (z : ℕ). 1 * a + z) (mul-zero (n * n * p)) ∙ add-zero (1 * a) ∙ one-mul a)
  last_sign (suc m) i p a b =
      last_sign m (suc (suc i)) (n * (n * p)) (K / factorial (suc i) * (n * (n * p)) + d * (d * a)) (d * (K / factorial i * (n * p) + d * b))
      ∙ go n d p a (K / factorial (suc i)) ((d * d) ^ m) (hom (skips (suc (suc (suc i))) m) (n * n) (d * d))
      ∙ ap (λ (l : ℕ). (d * d) ^ m * (d * d) * a + n * n * p * (K / factorial (suc i) * (d * d) ^ l + n * n * hom (skips (suc (suc (suc i))) m) (n * n) (d * d))) (sym (skips_length (suc (suc (suc i))) m))
      ∙ ap (λ (z : ℕ). z * a + n * n * p * (K / factorial (suc i) * (d * d) ^ length (skips (suc (suc (suc i))) m) + n * n * hom (skips (suc (suc (suc i))) m) (n * n) (d * d))) (sym (pow-suc (d * d) m))
    where
      go : (n d p a c P H : ℕ) → P * (c * (n * (n * p)) + d * (d * a)) + n * n * (n * (n * p)) * H ≡ P * (d * d) * a + n * n * p * (c * P + n * n * H)
      go n d p a c P H = simp ring

  other_sign : (m i p a b : ℕ) → (walk (twice m) i p a b).1 ≡ (d * d) ^ m * b + n * p * d * hom (skips i m) (n * n) (d * d)
  unfolding turn hom skips
  other_sign zero i p a b = sym (ap (λ (z : ℕ). z * b + n * p * d * 0) (pow-zero (d * d)) ∙ ap (λ (z : ℕ). 1 * b + z) (mul-zero (n * p * d)) ∙ add-zero (1 * b) ∙ one-mul b)
  other_sign (suc m) i p a b =
      other_sign m (suc (suc i)) (n * (n * p)) (K / factorial (suc i) * (n * (n * p)) + d * (d * a)) (d * (K / factorial i * (n * p) + d * b))
      ∙ go n d p b (K / factorial i) ((d * d) ^ m) (hom (skips (suc (suc i)) m) (n * n) (d * d))
      ∙ ap (λ (l : ℕ). (d * d) ^ m * (d * d) * b + n * p * d * (K / factorial i * (d * d) ^ l + n * n * hom (skips (suc (suc i)) m) (n * n) (d * d))) (sym (skips_length (suc (suc i)) m))
      ∙ ap (λ (z : ℕ). z * b + n * p * d * (K / factorial i * (d * d) ^ length (skips (suc (suc i)) m) + n * n * hom (skips (suc (suc i)) m) (n * n) (d * d))) (sym (pow-suc (d * d) m))
    where
      go : (n d p b c P H : ℕ) → P * (d * (c * (n * p) + d * b)) + n * (n * (n * p)) * d * H ≡ P * (d * d) * b + n * p * d * (c * P + n * n * H)
      go n d p b c P H = simp ring

  -- both signs together
  up_turn : (k i p a b : ℕ) → up (λ (x : ℕ). n * x) (λ (x : ℕ). d * x) sum k i p (a + b) ≡ (walk k i p a b).0 + (walk k i p a b).1
  unfolding up turn
  up_turn zero i p a b = refl
  up_turn (suc k) i p a b = ap (λ (z : ℕ). up (λ (x : ℕ). n * x) (λ (x : ℕ). d * x) sum k (suc i) (n * p) z) (go (K / factorial i * (n * p)) d a b) ∙ up_turn k (suc i) (n * p) (K / factorial i * (n * p) + d * b) (d * a)
    where
      go : (c d a b : ℕ) → c + d * (a + b) ≡ c + d * b + d * a
      go c d a b = simp ring

  -- the odd terms are n times `odds`, the even ones but 1 n n d times `evens`
  abbrev pub odds : ℕ
  odds = hom (skips 1 15) (n * n) (d * d)

  abbrev pub evens : ℕ
  evens = hom (skips 2 14) (n * n) (d * d)

  pub odd_is : (both_terms n d).0 ≡ n * odds
  unfolding turn hom skips factorial
  odd_is = last_sign 14 2 (n * 1) (K * (n * 1) + d * 0) (d * K) ∙ go n d ((d * d) ^ 14) K (hom (skips 3 14) (n * n) (d * d))
    where
      go : (n d P c H : ℕ) → P * (c * (n * 1) + d * 0) + n * n * (n * 1) * H ≡ n * (c * P + n * n * H)
      go n d P c H = simp (ring, one-mul, zero-mul, zero-add)

  pub even_is : (both_terms n d).1 ≡ K * ((d * d) ^ 14 * d) + n * n * d * evens
  unfolding turn
  even_is = other_sign 14 2 (n * 1) (K / factorial 1 * (n * 1) + d * 0) (d * K) ∙ go n d ((d * d) ^ 14) K (hom (skips 2 14) (n * n) (d * d))
    where
      go : (n d P c H : ℕ) → P * (d * c) + n * (n * 1) * d * H ≡ c * (P * d) + n * n * d * H
      go n d P c H = simp (ring, one-mul)

  pub all_is : all_terms n d ≡ (both_terms n d).0 + (both_terms n d).1
  all_is = ap (λ (z : ℕ). up (λ (x : ℕ). n * x) (λ (x : ℕ). d * x) sum 29 1 1 z) (sym (add-zero K)) ∙ up_turn 29 1 1 K 0

  square_power : (m : ℕ) → (d * d) ^ m * d ≡ d ^ suc (twice m)
  square_power zero = ap (λ (z : ℕ). z * d) (pow-zero (d * d)) ∙ sym (pow-suc d 0 ∙ ap (λ (z : ℕ). z * d) (pow-zero d))
  square_power (suc m) = ap (λ (z : ℕ). z * d) (pow-suc (d * d) m) ∙ go ((d * d) ^ m) d ∙ ap (λ (z : ℕ). z * d * d) (square_power m) ∙ sym (pow-suc d (suc (suc (twice m))) ∙ ap (λ (z : ℕ). z * d) (pow-suc d (suc (twice m))))
    where
      go : (P d : ℕ) → P * (d * d) * d ≡ P * d * d * d
      go P d = simp (mul_assoc, mul_comm, mul_left_comm)

  pub power_is : d ^ 29 ≡ (d * d) ^ 14 * d
  power_is = sym (square_power 14)
