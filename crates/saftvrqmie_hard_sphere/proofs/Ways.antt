-- The contributions from what the code works, in any arithmetic and over plain values. Assumes nothing.
use Prim.Native.Nat.{ℕ}
use mathlib.Core.Path.{◌≡◌}
use Rattle.number.specs.Arith.{Arith}
use Rattle.number.specs.Functions.{Functions}
use Rattle.number.specs.Lists.{nth}
use Rattle.mie_parameters.specs.Sums.{weighted}
use Rattle.saftvrqmie_hard_sphere.specs.State.{diagonal}
use Rattle.saftvrqmie_hard_sphere.specs.HardSphere.{ZetaIn, frac1mz3, zeta, hard_sphere_from, hard_sphere}
use Rattle.saftvrqmie_hard_sphere.specs.NonAdditive.{non_additive_sum, density_shares, non_additive}

module _ (A : Arith) (F : Functions A.Num) where
  open A use {Num, mul as ◌⊗◌, after}

  infixl 70 ◌⊗◌
  pub hard_sphere_is : (n : ℕ) (x rho d m : ℕ → Num) (z : ZetaIn Num) → z ≡ zeta A F n rho d m → hard_sphere_from A F n x d m z ≡ hard_sphere A F n x rho d m
  unfolding hard_sphere
  hard_sphere_is n x rho d m z h = rw h

  pub non_additive_is : (n : ℕ) (rho m d : ℕ → Num) (z : ZetaIn Num) (rho_s f v p q r : Num) → z ≡ zeta A F n rho (diagonal d) m → rho_s ≡ weighted A n rho m → f ≡ frac1mz3 A z.z3
      → v ≡ non_additive_sum A F n (nth A (density_shares A F n rho_s rho m)) d rho_s z.z2 f → p ≡ rho_s ⊗ v → q ≡ after z.z1 p → r ≡ after z.z0 q → r ≡ non_additive A F n rho m d
  unfolding non_additive
  non_additive_is n rho m d z rho_s f v p q r is-z is-rho is_f is-v is-p is-q is-r = rw (non_additive, ← is-z, ← is-rho, ← is_f, ← is-v, is-r, is-q, is-p)
