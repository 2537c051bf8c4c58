-- Document 01's thirty terms of exp at ± n / d over one denominator, 29! d ^ 29: the sum from the lowest term up, for numbers and for polynomials alike. Assumes nothing.
use mathlib.Core.Path.{◌≡◌, refl, sym, ap, ◌∙◌}
use mathlib.Core.List.{List}
use Prim.Native.Nat.{ℕ, zero, suc, ◌+◌, ◌*◌, ◌/◌}
use lib.ListN.{length}
use Rattle.series.specs.Sums.{factorial}
use Rattle.fixed_point.proofs.Polynomial.{hom}
use Rattle.fixed_point.proofs.Bernstein.{fma, fma_is, fma_length, Acts}

-- 29!
abbrev pub K : ℕ
K = 8841761993739701954543616000000

-- k terms from i on are added to a: N is a product with n, D one with d, F c x y is c x + y; p is n ^ (i - 1)
unfoldable pub up : {X : Type 0} → (X → X) → (X → X) → (ℕ → X → X → X) → ℕ → ℕ → X → X → X
up N D F zero i p a = a
up N D F (suc k) i p a = up N D F k (suc i) (N p) (F (K / factorial i) (N p) (D a))

-- the same with signs that alternate: a has the terms of the last sign, b those of the other
unfoldable pub turn : {X : Type 0} → (X → X) → (X → X) → (ℕ → X → X → X) → ℕ → ℕ → X → X → X → X × X
turn N D F zero i p a b = (a, b)
turn N D F (suc k) i p a b = turn N D F k (suc i) (N p) (F (K / factorial i) (N p) (D b)) (D a)

abbrev pub sum : ℕ → ℕ → ℕ → ℕ
sum c x y = c * x + y

-- the sum of the thirty terms at n / d; its even and its odd ones (29 is odd)
abbrev pub all_terms : ℕ → ℕ → ℕ
all_terms n d = up (λ (x : ℕ). n * x) (λ (x : ℕ). d * x) sum 29 1 1 K

abbrev pub both_terms : ℕ → ℕ → ℕ × ℕ
both_terms n d = turn (λ (x : ℕ). n * x) (λ (x : ℕ). d * x) sum 29 1 1 K 0

-- ---- polynomials in s and t have the values that the numbers say
module _ (s t n d : ℕ) (N D : List ℕ → List ℕ) (actsN : Acts N n 1 s t) (actsD : Acts D d 1 s t) where
  longer : (x y : List ℕ) → length x ≡ length y → length (N x) ≡ length (D y)
  longer x y e = actsN.longer x ∙ ap (λ (l : ℕ). 1 + l) e ∙ sym (actsD.longer y)

  next : (c : ℕ) (x y : List ℕ) → length x ≡ length y → hom (fma c (N x) (D y)) t s ≡ c * (n * hom x t s) + d * hom y t s
  next c x y e = fma_is c s t (N x) (D y) (longer x y e) ∙ ap (λ (z : ℕ). c * z + hom (D y) t s) (actsN.value x) ∙ ap (λ (z : ℕ). c * (n * hom x t s) + z) (actsD.value y)

  next_length : (c : ℕ) (x y : List ℕ) → length x ≡ length y → length (N x) ≡ length (fma c (N x) (D y))
  next_length c x y e = sym (fma_length c (N x) (D y) (longer x y e))

  pub up_is : (k i : ℕ) (p a : List ℕ) → length p ≡ length a → hom (up N D fma k i p a) t s ≡ up (λ (x : ℕ). n * x) (λ (x : ℕ). d * x) sum k i (hom p t s) (hom a t s)
  unfolding up
  up_is zero i p a e = refl
  up_is (suc k) i p a e =
      let c = K / factorial i in
      up_is k (suc i) (N p) (fma c (N p) (D a)) (next_length c p a e)
      ∙ ap (λ (z : ℕ). up (λ (x : ℕ). n * x) (λ (x : ℕ). d * x) sum k (suc i) z (hom (fma c (N p) (D a)) t s)) (actsN.value p)
      ∙ ap (λ (z : ℕ). up (λ (x : ℕ). n * x) (λ (x : ℕ). d * x) sum k (suc i) (n * hom p t s) z) (next c p a e)

  pub turn_is : (k i : ℕ) (p a b : List ℕ) → length p ≡ length a → length p ≡ length b
      → (hom (turn N D fma k i p a b).0 t s ≡ (turn (λ (x : ℕ). n * x) (λ (x : ℕ). d * x) sum k i (hom p t s) (hom a t s) (hom b t s)).0)
      × (hom (turn N D fma k i p a b).1 t s ≡ (turn (λ (x : ℕ). n * x) (λ (x : ℕ). d * x) sum k i (hom p t s) (hom a t s) (hom b t s)).1)
  unfolding turn
  turn_is zero i p a b e f = (refl, refl)
  turn_is (suc k) i p a b e f =
      let c = K / factorial i in
      let ih = turn_is k (suc i) (N p) (fma c (N p) (D b)) (D a) (next_length c p b f) (longer p a e) in
      let same : turn (λ (x : ℕ). n * x) (λ (x : ℕ). d * x) sum k (suc i) (hom (N p) t s) (hom (fma c (N p) (D b)) t s) (hom (D a) t s) ≡ turn (λ (x : ℕ). n * x) (λ (x : ℕ). d * x) sum k (suc i) (n * hom p t s) (c * (n * hom p t s) + d * hom b t s) (d * hom a t s) =
      rw (actsN.value p, next c p b f, actsD.value a) in
      (ih.0 ∙ ap (λ (z : ℕ × ℕ). z.0) same, ih.1 ∙ ap (λ (z : ℕ × ℕ). z.1) same)
