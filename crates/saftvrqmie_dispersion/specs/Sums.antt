-- What the sums over pairs take beside a perturbation (saftvrqmie/eos/dispersion.rs), over any arithmetic, in the Rust's order of operations.
use Rattle.std.specs.Prelude.{ℕ, eqb, cond}
use Rattle.number.specs.Arith.{Arith, whole}
use Rattle.number.specs.Functions.{Functions}

module _ (A : Arith) where
  open A use {Num, mul as ◌⊗◌, pow}

  infixl 70 ◌⊗◌
  -- x_s[i] * x_s[j] * fac * FRAC_PI_6 * rho_s * d_hs_ij.powi(3); fac is 1.0 on the diagonal, else 2.0
  unfoldable pub lead : Functions Num → ℕ → ℕ → Num → Num → Num → Num → Num
  lead F i j xi xj rho_s d = xi ⊗ xj ⊗ cond (eqb i j) (whole A 1) (whole A 2) ⊗ F.frac_pi_6 ⊗ rho_s ⊗ pow d 3
