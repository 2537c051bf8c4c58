-- Polynomials as lists of coefficients, the lowest first, over any numbers with a sum and a product; and the derivative, taken on the coefficients.
use Rattle.std.specs.Prelude.{ℕ, suc, List, [], ◌∷◌}

-- numbers that can be coefficients: a sum, a product, a negative, and the whole numbers among them
pub record Coefficients (N : Type 0) : Type 0 where
  pub add : N → N → N
  pub mul : N → N → N
  pub neg : N → N
  pub whole : ℕ → N

module _ {N : Type 0} (C : Coefficients N) where
  open C use {add as ◌⊕◌, mul as ◌⊗◌, neg as ⊖◌, whole}

  infixl 60 ◌⊕◌
  infixl 70 ◌⊗◌
  infix 80 ⊖◌
  -- c0 + x (c1 + x (c2 + ..))
  unfoldable pub evaluated : List N → N → N
  evaluated [] _ = whole 0
  evaluated (c ∷ p) x = c ⊕ x ⊗ evaluated p x

  unfoldable pub sum : List N → List N → List N
  sum [] q = q
  sum (c ∷ p) [] = c ∷ p
  sum (c ∷ p) (d ∷ q) = (c ⊕ d) ∷ sum p q

  unfoldable pub negative : List N → List N
  negative [] = []
  negative (c ∷ p) = (⊖ c) ∷ negative p

  unfoldable pub scaled : N → List N → List N
  scaled _ [] = []
  scaled k (c ∷ p) = (k ⊗ c) ∷ scaled k p

  unfoldable pub product : List N → List N → List N
  product [] _ = []
  product (c ∷ p) q = sum (scaled c q) (whole 0 ∷ product p q)

  -- k times the first, k + 1 times the second, and so on
  unfoldable pub counted : ℕ → List N → List N
  counted _ [] = []
  counted k (c ∷ p) = (whole k ⊗ c) ∷ counted (suc k) p

  -- 'taken on the coefficients': the one of x^k, multiplied by k, is that of x^(k − 1); the lowest goes
  unfoldable pub derivative : List N → List N
  derivative [] = []
  derivative (c ∷ p) = counted 1 p
