-- The combining rules of `SaftVRQMiePars::new` alone at a pair (Aasen et al. 2019), over any arithmetic, in the Rust's order of operations.
use Rattle.std.specs.Prelude.{false}
use Rattle.number.specs.Arith.{Arith, decimal}

module _ (A : Arith) where
  open A use {Num, add as ◌⊕◌, sub as ◌⊖◌, mul as ◌⊗◌, div as ◌⊘◌, lit}

  infixl 60 ◌⊕◌
  infixl 60 ◌⊖◌
  infixl 70 ◌⊗◌
  infixl 70 ◌⊘◌
  abbrev one : Num
  one = lit (decimal false 1 0)

  -- (1.0 - l_ij) * 0.5 * (sigma[i] + sigma[j])
  unfoldable pub sigma_ij : Num → Num → Num → Num
  sigma_ij si sj l = (one ⊖ l) ⊗ lit (decimal false 5 1) ⊗ (si ⊕ sj)

  -- 2·mi·mj/(mi + mj), worked from the left in kilograms
  unfoldable pub mass_ij : Num → Num → Num
  mass_ij mi mj = lit (decimal false 2 0) ⊗ mi ⊗ mj ⊘ (mi ⊕ mj)
