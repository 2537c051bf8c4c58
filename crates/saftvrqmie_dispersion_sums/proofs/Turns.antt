-- Turns of the sums over pairs and ways of the contribution, in any arithmetic and over plain values. Assumes nothing.
use Prim.Native.Nat.{ℕ, ◌+◌, ◌-◌, ◌≤◌}
use native.Mathlib.Omega.{arith}
use lib.ListN.{set}
use mathlib.Core.List.{List}
use mathlib.Core.Path.{◌≡◌, sym, ap, ◌∙◌}
use Rattle.number.specs.Ans.{Ans, held, refused, ◌>>=◌}
use Rattle.number.specs.Arith.{Arith, whole}
use Rattle.number.specs.Functions.{Functions}
use Rattle.sizes.specs.Sizes.{cell}
use Rattle.saftvrqmie_potential.specs.Potential.{PairIn, recip}
use Rattle.saftvrqmie_dispersion.specs.Alpha.{alpha, chi, third_order_ij}
use Rattle.saftvrqmie_dispersion.specs.Perturbation.{DispersionIn, first_order_ij, second_order_ij}
use Rattle.number.specs.Lists.{nth}
use Rattle.mie_parameters.specs.Sums.{weighted, orders_sum}
use Rattle.saftvrqmie_dispersion_sums.specs.State.{SheetsIn}
use Rattle.saftvrqmie_dispersion_sums.specs.Dispersion.{MixtureIn, segment_fractions, alphas, first, second, third, mixture, dispersion, alpha_turn, first_turn, second_pair_turn, third_turn, dispersion_pair_at, lead_at}

module _ (A : Arith) (F : Functions A.Num) where
  open A use {Num, add as ◌⊕◌, mul as ◌⊗◌}

  infixl 60 ◌⊕◌
  infixl 70 ◌⊗◌
  module _ (s : SheetsIn Num) (i k : ℕ) where
    abbrev e : ℕ
    e = cell i (i + k)

    module _ (l : List Num) (p : PairIn Num) (u v : Num) (a : Ans Num) (is-p : p ≡ s.pair e) (is-u : u ≡ s.sigma_eff e) (is-v : v ≡ s.epsilon_k_eff e) (is-a : a ≡ alpha A F p u v) where
      here : alpha A F (s.pair e) (s.sigma_eff e) (s.epsilon_k_eff e) ≡ a
      here = rw (← is-p, ← is-u, ← is-v) (sym is-a)

      pub alpha_held : (r : Num) → a ≡ held r → alpha_turn A F s i k l ≡ held (set (set l e r) (cell (i + k) i) r)
      unfolding alpha_turn ◌>>=◌
      alpha_held r g = rw (here, g)

      -- from the place of the column
      pub alpha_held_at : (j : ℕ) → j ≡ i + k → (r : Num) → a ≡ held r → alpha_turn A F s i k l ≡ held (set (set l (cell i j) r) (cell j i) r)
      alpha_held_at j d r g = rw d (alpha_held r g)

      pub alpha_outside : (n : ℕ) → a ≡ refused n → alpha_turn A F s i k l ≡ refused n
      unfolding alpha_turn ◌>>=◌
      alpha_outside n g = rw (here, g)

    module _ (x : ℕ → Num) (w : MixtureIn Num) (sum : Num) (d : DispersionIn Num) (a : Ans Num) (is-d : d ≡ dispersion_pair_at A F s x w e) where
      module _ (is-a : a ≡ first_order_ij A F d) where
        first_here : first_order_ij A F (dispersion_pair_at A F s x w e) ≡ a
        first_here = sym (is-a ∙ ap (first_order_ij A F) is-d)

        pub first_held : (v ld r : Num) → a ≡ held v → ld ≡ lead_at A F s x w i (i + k) → r ≡ sum ⊕ ld ⊗ v → first_turn A F s x w i k sum ≡ held r
        unfolding first_turn ◌>>=◌
        first_held v ld r g h q = rw (first_here, g, q, h)

        pub first_outside : (n : ℕ) → a ≡ refused n → first_turn A F s x w i k sum ≡ refused n
        unfolding first_turn ◌>>=◌
        first_outside n g = rw (first_here, g)

      module _ (alphas : ℕ → Num) (is-a : a ≡ second_order_ij A F d) where
        second_here : second_order_ij A F (dispersion_pair_at A F s x w e) ≡ a
        second_here = sym (is-a ∙ ap (second_order_ij A F) is-d)

        pub second_held : (v ld c f r : Num) → a ≡ held v → ld ≡ lead_at A F s x w i (i + k) → c ≡ chi A (alphas e) w.zeta_bar
            → f ≡ ld ⊗ (c ⊕ whole A 1) → r ≡ sum ⊕ f ⊗ v → second_pair_turn A F s x w alphas i k sum ≡ held r
        unfolding second_pair_turn ◌>>=◌
        second_held v ld c f r g h m q t = rw (second_here, g, t, q, h, m)

        pub second_outside : (n : ℕ) → a ≡ refused n → second_pair_turn A F s x w alphas i k sum ≡ refused n
        unfolding second_pair_turn ◌>>=◌
        second_outside n g = rw (second_here, g)

  module _ (n : ℕ) (depth x : ℕ → Num) (zeta_bar : Num) (alphas : ℕ → Num) (i j : ℕ) (sum u : Num) (a : Ans Num) (is-u : u ≡ depth (cell i j)) (is-a : a ≡ third_order_ij A F u (alphas (cell i j)) zeta_bar) where
    third_here : third_order_ij A F (depth (cell i j)) (alphas (cell i j)) zeta_bar ≡ a
    third_here = rw (← is-u) (sym is-a)

    pub third_held : (v c r : Num) → a ≡ held v → c ≡ x i ⊗ x j → r ≡ sum ⊕ c ⊗ v → third_turn A F n depth x zeta_bar alphas i j sum ≡ held r
    unfolding third_turn ◌>>=◌
    third_held v c r g h q = rw (third_here, g, q, h)

    pub third_outside : (k : ℕ) → a ≡ refused k → third_turn A F n depth x zeta_bar alphas i j sum ≡ refused k
    unfolding third_turn ◌>>=◌
    third_outside k g = rw (third_here, g)

  -- ---- the contribution
  module _ (s : SheetsIn Num) (x rho m : ℕ → Num) (t : Num) (xs : List Num) (is-xs : xs ≡ segment_fractions A s.count x m)
      (w : MixtureIn Num) (is-w : w ≡ mixture A F s.count s.sigma_eff s.hs_diameter (nth A xs) rho m) where
    abbrev result : Ans Num
    result = dispersion A F s x rho m t

    pub no_alphas : (k : ℕ) → alphas A F s ≡ refused k → refused k ≡ result
    unfolding dispersion ◌>>=◌
    no_alphas k p = rw p

    module _ (l : List Num) (is-l : alphas A F s ≡ held l) where
      pub no_first : (k : ℕ) → first A F s (nth A xs) w ≡ refused k → refused k ≡ result
      unfolding dispersion ◌>>=◌
      no_first k p = rw (is-l, ← is-xs, ← is-w, p)

      module _ (a1 : Num) (is-a1 : first A F s (nth A xs) w ≡ held a1) where
        pub no_second : (k : ℕ) → second A F s (nth A xs) w (nth A l) ≡ refused k → refused k ≡ result
        unfolding dispersion ◌>>=◌
        no_second k p = rw (is-l, ← is-xs, ← is-w, is-a1, p)

        module _ (a2 : Num) (is-a2 : second A F s (nth A xs) w (nth A l) ≡ held a2) where
          pub no_third : (k : ℕ) → third A F s.count s.epsilon_k_eff (nth A xs) w.zeta_bar (nth A l) ≡ refused k → refused k ≡ result
          unfolding dispersion ◌>>=◌
          no_third k p = rw (is-l, ← is-xs, ← is-w, is-a1, is-a2, p)

          pub dispersion_is : (a3 ns v r : Num) → third A F s.count s.epsilon_k_eff (nth A xs) w.zeta_bar (nth A l) ≡ held a3 → ns ≡ weighted A s.count rho m → v ≡ orders_sum A (recip A t) a1 a2 a3 → r ≡ ns ⊗ v → held r ≡ result
          unfolding dispersion ◌>>=◌
          dispersion_is a3 ns v r p q g h = rw (is-l, ← is-xs, ← is-w, is-a1, is-a2, p, ← q, ← g, h)
