-- `HardSphere::helmholtz_energy_density`, `zeta` and `zeta_23` of saftvrqmie/eos/hard_sphere.rs, and what they work of one component, over any arithmetic, in the Rust's order of operations.
use Rattle.std.specs.Prelude.{ℕ, true}
use Rattle.number.specs.Ans.{Ans, held, ◌>>=◌}
use Rattle.number.specs.Arith.{Arith, decimal, whole}
use Rattle.number.specs.Functions.{Functions}
use Rattle.number.specs.Walk.{turns}
use Rattle.saftvrqmie_potential.specs.Potential.{recip}
use Rattle.saftvrqmie_hard_sphere.specs.declared.hard_sphere.Zetas.{Zetas}
use Rattle.saftvrqmie_hard_sphere.specs.declared.hard_sphere.Zeta23.{Zeta23}

-- zeta[0] to zeta[3]
pub record ZetaIn (N : Type 0) : Type 0 where
  pub z0 : N
  pub z1 : N
  pub z2 : N
  pub z3 : N

abbrev pub zeta_by : {D N : Type 0} → (D → N) → Zetas D → ZetaIn N
zeta_by of z = record { z0 = of z.z0; z1 = of z.z1; z2 = of z.z2; z3 = of z.z3 }

abbrev pub zeta_each : {N : Type 0} → (N → N) → ZetaIn N → ZetaIn N
zeta_each f z = record { z0 = f z.z0; z1 = f z.z1; z2 = f z.z2; z3 = f z.z3 }

-- of a run whose numbers are the formulas' own
abbrev pub zeta_in : {N : Type 0} → Zetas N → ZetaIn N
zeta_in z = zeta_by (λ x. x) z

-- the two sums of `zeta_23`
pub record Zeta23In (N : Type 0) : Type 0 where
  pub y0 : N
  pub y1 : N

abbrev pub zeta23_by : {D N : Type 0} → (D → N) → Zeta23 D → Zeta23In N
zeta23_by of y = record { y0 = of y.y0; y1 = of y.y1 }

abbrev pub zeta23_each : {N : Type 0} → (N → N) → Zeta23In N → Zeta23In N
zeta23_each f y = record { y0 = f y.y0; y1 = f y.y1 }

abbrev pub zeta23_in : {N : Type 0} → Zeta23 N → Zeta23In N
zeta23_in y = zeta23_by (λ x. x) y

module _ (A : Arith) where
  open A use {Num, add as ◌⊕◌, sub as ◌⊖◌, mul as ◌⊗◌, div as ◌⊘◌, neg as ⊖◌, pow, lit}

  infixl 60 ◌⊕◌
  infixl 60 ◌⊖◌
  infixl 70 ◌⊗◌
  infixl 70 ◌⊘◌
  infix 80 ⊖◌
  -- partial_density[i] * diameter[i].powi(k) * (PI / 6.0 * m[i]), added for k = 0 to 3
  unfoldable pub zeta_added : Functions Num → Num → Num → Num → ZetaIn Num → ZetaIn Num
  zeta_added F rho d m z =
      let w = F.pi ⊘ whole A 6 ⊗ m in
      record { z0 = z.z0 ⊕ rho ⊗ pow d 0 ⊗ w; z1 = z.z1 ⊕ rho ⊗ pow d 1 ⊗ w; z2 = z.z2 ⊕ rho ⊗ pow d 2 ⊗ w; z3 = z.z3 ⊕ rho ⊗ pow d 3 ⊗ w }

  -- frac_1mz3: -(zeta[3] - 1.0).recip()
  unfoldable pub frac1mz3 : Num → Num
  frac1mz3 z3 = ⊖ recip A (z3 ⊖ whole A 1)

  -- molefracs[i] * diameter[i].powi(k + 2) * m[i], added for k = 0 and 1
  unfoldable pub zeta23_added : Num → Num → Num → Zeta23In Num → Zeta23In Num
  zeta23_added x d m y = record { y0 = y.y0 ⊕ x ⊗ pow d 2 ⊗ m; y1 = y.y1 ⊕ x ⊗ pow d 3 ⊗ m }

  -- from zeta, zeta_23 and the logarithm l of 1 - zeta[3]
  unfoldable pub hard_sphere_of : Functions Num → ZetaIn Num → Num → Num → Num
  hard_sphere_of F z z23 l =
      let f = frac1mz3 z.z3 in
      (z.z1 ⊗ z.z2 ⊗ f ⊗ whole A 3 ⊕ pow z.z2 2 ⊗ pow f 2 ⊗ z23 ⊕ (z.z2 ⊗ pow z23 2 ⊖ z.z0) ⊗ l) ⊗ whole A 6 ⊘ F.pi

  -- `zeta`: n, partial densities, diameters, m
  unfoldable pub zeta : Functions Num → ℕ → (ℕ → Num) → (ℕ → Num) → (ℕ → Num) → ZetaIn Num
  zeta F n rho d m = turns n (λ i z. zeta_added F (rho i) (d i) (m i) z) (record { z0 = whole A 0; z1 = whole A 0; z2 = whole A 0; z3 = whole A 0 })

  unfoldable pub zeta23_sums : ℕ → (ℕ → Num) → (ℕ → Num) → (ℕ → Num) → Zeta23In Num
  zeta23_sums n x d m = turns n (λ i y. zeta23_added (x i) (d i) (m i) y) (record { y0 = whole A 0; y1 = whole A 0 })

  -- `zeta_23`: n, mole fractions, diameters, m
  unfoldable pub zeta23 : ℕ → (ℕ → Num) → (ℕ → Num) → (ℕ → Num) → Num
  zeta23 n x d m = let y = zeta23_sums n x d m in y.y0 ⊘ y.y1

  -- `helmholtz_energy_density`: n, mole fractions, diameters, m, and the zetas
  abbrev pub hard_sphere_from : Functions Num → ℕ → (ℕ → Num) → (ℕ → Num) → (ℕ → Num) → ZetaIn Num → Ans Num
  hard_sphere_from F n x d m z =
      F.ln1p (z.z3 ⊗ lit (decimal true 1 0)) >>= λ l.
      held (hard_sphere_of F z (zeta23 n x d m) l)

  -- the same from partial densities
  unfoldable pub hard_sphere : Functions Num → ℕ → (ℕ → Num) → (ℕ → Num) → (ℕ → Num) → (ℕ → Num) → Ans Num
  hard_sphere F n x rho d m = hard_sphere_from F n x d m (zeta F n rho d m)
