-- Sums and rows that both models work, over any arithmetic, in the Rust's order of operations.
use Rattle.std.specs.Prelude.{ℕ, List, Float}
use Rattle.number.specs.Arith.{Arith, zero64, whole}
use Rattle.number.specs.Lists.{at}
use Rattle.number.specs.Walk.{turns}

module _ (A : Arith) where
  open A use {Num, add as ◌⊕◌, mul as ◌⊗◌, div as ◌⊘◌, pow, lit}

  infixl 60 ◌⊕◌
  infixl 70 ◌⊗◌
  infixl 70 ◌⊘◌
  -- the sum of v[i] * m[i]: the segment density, from partial densities; the mean segment number, from mole fractions
  unfoldable pub weighted : ℕ → (ℕ → Num) → (ℕ → Num) → Num
  weighted n v m = turns n (λ i s. s ⊕ v i ⊗ m i) (lit zero64)

  -- the three orders of dispersion at 1/T: a1 * t_inv + a2 * t_inv.powi(2) + a3 * t_inv.powi(3)
  unfoldable pub orders_sum : Num → Num → Num → Num → Num
  orders_sum t_inv a1 a2 a3 = a1 ⊗ t_inv ⊕ a2 ⊗ pow t_inv 2 ⊕ a3 ⊗ pow t_inv 3

  -- `f` of a row of PHI, from alpha and its powers 2 and 3
  unfoldable pub f_from : List Float → Num → Num → Num → Num
  f_from phi alpha alpha2 alpha3 =
      (alpha ⊗ lit (at phi 1) ⊕ alpha2 ⊗ lit (at phi 2) ⊕ alpha3 ⊗ lit (at phi 3) ⊕ lit (at phi 0))
      ⊘ (alpha ⊗ lit (at phi 4) ⊕ alpha2 ⊗ lit (at phi 5) ⊕ alpha3 ⊗ lit (at phi 6) ⊕ whole A 1)
