-- `NonAddHardSphere::helmholtz_energy_density` of saftvrqmie/eos/non_additive_hs.rs, and what it works of one pair, over any arithmetic, in the Rust's order of operations. Fractions are taken from the densities.
use Rattle.std.specs.Prelude.{ℕ, List, false}
use Rattle.number.specs.Arith.{Arith, decimal, whole}
use Rattle.number.specs.Functions.{Functions}
use Rattle.number.specs.Lists.{nth}
use Rattle.number.specs.Walk.{turns}
use Rattle.sizes.specs.Sizes.{cell}
use Rattle.mie_parameters.specs.Places.{in_places}
use Rattle.mie_parameters.specs.Sums.{weighted}
use Rattle.saftvrqmie_hard_sphere.specs.State.{diagonal}
use Rattle.saftvrqmie_hard_sphere.specs.HardSphere.{frac1mz3, zeta}

module _ (A : Arith) where
  open A use {Num, add as ◌⊕◌, sub as ◌⊖◌, mul as ◌⊗◌, div as ◌⊘◌, neg as ⊖◌, pow, lit, after}

  infixl 60 ◌⊕◌
  infixl 60 ◌⊖◌
  infixl 70 ◌⊗◌
  infixl 70 ◌⊘◌
  infix 80 ⊖◌
  -- g_hs_ij of two diameters, from zeta[2] and frac_1mz3
  unfoldable pub g_hs : Num → Num → Num → Num → Num
  g_hs di dj z2 f =
      let mu = di ⊗ dj ⊘ (di ⊕ dj) in
      f ⊕ mu ⊗ z2 ⊗ pow f 2 ⊗ whole A 3 ⊕ pow (mu ⊗ z2) 2 ⊗ pow f 3 ⊗ whole A 2

  -- the entry of the matrix: rho_s, segment fractions xi and xj, diameters of both and of the pair
  unfoldable pub non_additive_ij : Functions Num → Num → Num → Num → Num → Num → Num → Num → Num → Num
  non_additive_ij F rho_s xi xj di dj dij z2 f =
      let a = (di ⊕ dj) ⊗ lit (decimal false 5 1) in
      ⊖ rho_s ⊗ xi ⊗ xj ⊗ pow a 2 ⊗ g_hs di dj z2 f ⊗ (a ⊖ dij) ⊗ whole A 2 ⊗ F.pi

  module _ (F : Functions Num) (n : ℕ) where
    -- x: segment fractions; d: diameters of the pairs
    module _ (x d : ℕ → Num) (rho_s z2 f : Num) where
      unfoldable pub non_additive_turn : ℕ → ℕ → Num → Num
      non_additive_turn j i r = r ⊕ non_additive_ij F rho_s (x i) (x j) (diagonal d i) (diagonal d j) (d (cell i j)) z2 f

      -- the matrix is summed column by column
      unfoldable pub non_additive_column : ℕ → Num → Num
      non_additive_column j r = turns n (non_additive_turn j) r

      unfoldable pub non_additive_sum : Num
      non_additive_sum = turns n non_additive_column (whole A 0)

    -- x_s: rho[i] * m[i] / rho_s
    unfoldable pub density_shares : Num → (ℕ → Num) → (ℕ → Num) → List Num
    density_shares rho_s rho m = in_places A n (λ i. rho i ⊗ m i ⊘ rho_s)

    -- from partial densities, m and the pairs' diameters; zeta[0] and zeta[1] are worked, though nothing uses them
    unfoldable pub non_additive : (ℕ → Num) → (ℕ → Num) → (ℕ → Num) → Num
    non_additive rho m d =
        let z = zeta A F n rho (diagonal d) m in
        let rho_s = weighted A n rho m in
        let x = nth A (density_shares rho_s rho m) in
        after z.z0 (after z.z1 (rho_s ⊗ non_additive_sum x d rho_s z.z2 (frac1mz3 A z.z3)))
