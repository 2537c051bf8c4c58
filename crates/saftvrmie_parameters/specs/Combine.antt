-- The combining rules of `SaftVRMiePars::new` alone at a pair (Lafitte et al. 2013), over any arithmetic, in the Rust's order of operations.
use Rattle.std.specs.Prelude.{false}
use Rattle.number.specs.Ans.{Ans, held, ◌>>=◌}
use Rattle.number.specs.Arith.{Arith, decimal}
use Rattle.number.specs.Functions.{Functions}

module _ (A : Arith) where
  open A use {Num, add as ◌⊕◌, sub as ◌⊖◌, mul as ◌⊗◌, div as ◌⊘◌, lit}

  infixl 60 ◌⊕◌
  infixl 60 ◌⊖◌
  infixl 70 ◌⊗◌
  infixl 70 ◌⊘◌
  abbrev one : Num
  one = lit (decimal false 1 0)

  abbrev three : Num
  three = lit (decimal false 3 0)

  -- 0.5 * (sigma[i] + sigma[j])
  unfoldable pub sigma_ij : Num → Num → Num
  sigma_ij si sj = lit (decimal false 5 1) ⊗ (si ⊕ sj)

  -- c_ij * ((la_ij - 3.0).recip() - (lr_ij - 3.0).recip())
  unfoldable pub alpha_ij : Num → Num → Num → Num
  alpha_ij c lr la = c ⊗ (one ⊘ (la ⊖ three) ⊖ one ⊘ (lr ⊖ three))

  -- (1.0 - gamma_ij) * ((lr[i] - 3.0) * (lr[j] - 3.0)).sqrt() + 3.0
  unfoldable pub lr_ij : Functions Num → Num → Num → Num → Ans Num
  lr_ij F li lj gamma = F.sqrt ((li ⊖ three) ⊗ (lj ⊖ three)) >>= λ r. held ((one ⊖ gamma) ⊗ r ⊕ three)
