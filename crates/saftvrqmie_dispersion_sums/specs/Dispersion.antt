-- `Dispersion::helmholtz_energy_density` of saftvrqmie/eos/dispersion.rs, over any arithmetic, in the Rust's order of operations: segment fractions, packing fractions, alpha, and the sums of the three orders.
use Rattle.std.specs.Prelude.{ℕ, ◌+◌, ◌-◌, set, replicate, List}
use Rattle.number.specs.Ans.{Ans, held, ◌>>=◌}
use Rattle.number.specs.Arith.{Arith, whole}
use Rattle.number.specs.Functions.{Functions}
use Rattle.number.specs.Lists.{nth}
use Rattle.sizes.specs.Sizes.{sheet, cell}
use Rattle.number.specs.Walk.{turns, walk}
use Rattle.saftvrqmie_potential.specs.Potential.{recip}
use Rattle.mie_parameters.specs.Places.{in_places}
use Rattle.mie_parameters.specs.Sums.{weighted, orders_sum}
use Rattle.saftvrqmie_dispersion.specs.Alpha.{alpha, chi, third_order_ij}
use Rattle.saftvrqmie_dispersion.specs.Sums.{lead}
use Rattle.saftvrqmie_dispersion.specs.Perturbation.{DispersionIn, dispersion_pair, first_order_ij, second_order_ij, k_factor}
use Rattle.saftvrqmie_dispersion_sums.specs.State.{SheetsIn}
use Rattle.saftvrqmie_dispersion_sums.specs.declared.SegmentState.{SegmentState}

-- what the sums over pairs share
pub record MixtureIn (N : Type 0) : Type 0 where
  pub rho_s : N
  pub zeta : N
  pub zeta_bar : N

abbrev pub mixture_by : {D N : Type 0} → (D → N) → SegmentState D → MixtureIn N
mixture_by of w = record { rho_s = of w.rho_s; zeta = of w.zeta; zeta_bar = of w.zeta_bar }

module _ (A : Arith) where
  open A use {Num, add as ◌⊕◌, mul as ◌⊗◌, pow}

  infixl 60 ◌⊕◌
  infixl 70 ◌⊗◌
  -- x_s.sum().recip(), where x_s[i] is molefracs[i] * m[i]
  unfoldable pub inv_xs_sum : ℕ → (ℕ → Num) → (ℕ → Num) → Num
  inv_xs_sum n x m = recip A (weighted A n x m)

  -- x_s after x_s[i] *= inv_x_s_sum
  unfoldable pub segment_fractions : ℕ → (ℕ → Num) → (ℕ → Num) → List Num
  segment_fractions n x m = let inv = inv_xs_sum n x m in in_places A n (λ i. x i ⊗ m i ⊗ inv)

  module _ (F : Functions Num) where
    -- `zeta_saft_vrq_mie` of a sheet; x are the segment fractions
    module _ (n : ℕ) (x d : ℕ → Num) where
      unfoldable pub packing_turn : ℕ → ℕ → Num → Num
      packing_turn i j r = r ⊕ x i ⊗ x j ⊗ pow (d (cell i j)) 3

      unfoldable pub packing_row : ℕ → Num → Num
      packing_row i r = turns n (packing_turn i) r

      unfoldable pub packing : Num → Num
      packing rho_s = turns n packing_row (whole A 0) ⊗ F.frac_pi_6 ⊗ rho_s

    -- third order, all ordered pairs row by row, from epsilon_k_eff, x, zeta_bar and the alphas
    module _ (n : ℕ) (epsilon_k_eff x : ℕ → Num) (zeta_bar : Num) (alphas : ℕ → Num) where
      unfoldable pub third_turn : ℕ → ℕ → Num → Ans Num
      third_turn i j a3 = third_order_ij A F (epsilon_k_eff (cell i j)) (alphas (cell i j)) zeta_bar >>= λ v. held (a3 ⊕ x i ⊗ x j ⊗ v)

      unfoldable pub third_row : ℕ → Num → Ans Num
      third_row i a3 = walk n (third_turn i) a3

      unfoldable pub third : Ans Num
      third = walk n third_row (whole A 0)

    -- rho_s and both packing fractions, from sigma_eff, diameters, segment fractions x, partial densities and m
    unfoldable pub mixture : ℕ → (ℕ → Num) → (ℕ → Num) → (ℕ → Num) → (ℕ → Num) → (ℕ → Num) → MixtureIn Num
    mixture n sigma_eff hs_diameter x rho m =
        let rho_s = weighted A n rho m in
        record { rho_s = rho_s; zeta = packing n x hs_diameter rho_s; zeta_bar = packing n x sigma_eff rho_s }

    module _ (s : SheetsIn Num) where
      -- `Alpha::new`: pairs j >= i, each written at (i, j) and (j, i)
      unfoldable pub alpha_turn : ℕ → ℕ → List Num → Ans (List Num)
      alpha_turn i k l =
          let e = cell i (i + k) in
          alpha A F (s.pair e) (s.sigma_eff e) (s.epsilon_k_eff e) >>= λ a.
          held (set (set l e a) (cell (i + k) i) a)

      unfoldable pub alpha_row : ℕ → List Num → Ans (List Num)
      alpha_row i l = walk (s.count - i) (alpha_turn i) l

      unfoldable pub alphas : Ans (List Num)
      alphas = walk s.count alpha_row (replicate sheet (whole A 0))

      module _ (x : ℕ → Num) (w : MixtureIn Num) where
        -- what both perturbations of the pair at entry e take
        abbrev pub dispersion_pair_at : ℕ → DispersionIn Num
        dispersion_pair_at e = dispersion_pair A (s.pair e) (s.hs_diameter e) (s.sigma_eff e) (s.quantum_d e) w.zeta

        abbrev pub lead_at : ℕ → ℕ → Num
        lead_at i j = lead A F i j (x i) (x j) w.rho_s (s.hs_diameter (cell i j))

        -- first order, pairs j >= i
        unfoldable pub first_turn : ℕ → ℕ → Num → Ans Num
        first_turn i k a1 = first_order_ij A F (dispersion_pair_at (cell i (i + k))) >>= λ v. held (a1 ⊕ lead_at i (i + k) ⊗ v)

        unfoldable pub first_row : ℕ → Num → Ans Num
        first_row i a1 = walk (s.count - i) (first_turn i) a1

        unfoldable pub first : Ans Num
        first = walk s.count first_row (whole A 0)

        module _ (alphas : ℕ → Num) where
          -- second order, pairs j >= i
          unfoldable pub second_pair_turn : ℕ → ℕ → Num → Ans Num
          second_pair_turn i k a2 =
              let e = cell i (i + k) in
              second_order_ij A F (dispersion_pair_at e) >>= λ v.
              held (a2 ⊕ lead_at i (i + k) ⊗ (chi A (alphas e) w.zeta_bar ⊕ whole A 1) ⊗ v)

          unfoldable pub second_row : ℕ → Num → Ans Num
          second_row i a2 = walk (s.count - i) (second_pair_turn i) a2

          unfoldable pub second : Ans Num
          second = walk s.count second_row (whole A 0) >>= λ a2. held (a2 ⊗ k_factor A w.zeta)

      -- from the mole fractions, partial densities, m and the temperature; n_s is summed anew
      unfoldable pub dispersion : (ℕ → Num) → (ℕ → Num) → (ℕ → Num) → Num → Ans Num
      dispersion molefracs rho m temperature =
          let x = nth A (segment_fractions s.count molefracs m) in
          let w = mixture s.count s.sigma_eff s.hs_diameter x rho m in
          alphas >>= λ l.
          first x w >>= λ a1.
          second x w (nth A l) >>= λ a2.
          third s.count s.epsilon_k_eff x w.zeta_bar (nth A l) >>= λ a3.
          held (weighted A s.count rho m ⊗ orders_sum A (recip A temperature) a1 a2 a3)
