-- The combining rules that `SaftVRQMiePars::new` and `SaftVRMiePars::new` share at a pair (Lafitte et al. 2013), over any arithmetic, in the Rust's order of operations.
use Rattle.std.specs.Prelude.{false}
use Rattle.number.specs.Ans.{Ans, held, ◌>>=◌}
use Rattle.number.specs.Arith.{Arith, decimal}
use Rattle.number.specs.Functions.{Functions}

module _ (A : Arith) where
  open A use {Num, add as ◌⊕◌, sub as ◌⊖◌, mul as ◌⊗◌, div as ◌⊘◌, pow, lit}

  infixl 60 ◌⊕◌
  infixl 60 ◌⊖◌
  infixl 70 ◌⊗◌
  infixl 70 ◌⊘◌
  abbrev one : Num
  one = lit (decimal false 1 0)

  abbrev three : Num
  three = lit (decimal false 3 0)

  module _ (F : Functions Num) where
    -- (1.0 - k_ij) * e_k_ij, where e_k_ij is (sigma[i]³ * sigma[j]³).sqrt() / sigma_ij³ * (epsilon_k[i] * epsilon_k[j]).sqrt()
    unfoldable pub epsilon_k_ij : Num → Num → Num → Num → Num → Num → Ans Num
    epsilon_k_ij si sj ei ej sigma k =
        F.sqrt (pow si 3 ⊗ pow sj 3) >>= λ cubes.
        F.sqrt (ei ⊗ ej) >>= λ energies.
        held ((one ⊖ k) ⊗ (cubes ⊘ pow sigma 3 ⊗ energies))

    -- ((l[i] - 3.0) * (l[j] - 3.0)).sqrt() + 3.0, for both exponents
    unfoldable pub lambda_ij : Num → Num → Ans Num
    lambda_ij li lj = F.sqrt ((li ⊖ three) ⊗ (lj ⊖ three)) >>= λ r. held (r ⊕ three)

    -- lambda_r / (lambda_r - lambda_a) * (lambda_r / lambda_a).powf(lambda_a / (lambda_r - lambda_a))
    unfoldable pub c_ij : Num → Num → Ans Num
    c_ij lr la = F.powf (lr ⊘ la) (la ⊘ (lr ⊖ la)) >>= λ p. held (lr ⊘ (lr ⊖ la) ⊗ p)
