-- As Fewer, of the contributions in the arithmetic of the energies. Assumes nothing.
use Prim.Native.Nat.{ℕ}
use mathlib.Core.Bool.{Bool}
use Rattle.number.specs.Ans.{Ans, held}
use Rattle.number.specs.Functions.{Functions, Answers}
use Rattle.slopes.specs.Mixed.{Mixed, mixed_one}
use Rattle.slopes.specs.Rules.{mixed_functions}
use Rattle.saftvrqmie_potential.specs.Potential.{PairIn, first_order, second_order, prefactor, quantum_d}
use Rattle.saftvrqmie_dispersion_terms.specs.Terms.{sutherland, ilambda, jlambda, b, combine, combine_sutherland_and_b}
use Rattle.saftvrqmie_dispersion.specs.Alpha.{ratio, dmt_of, alpha, third_order_ij}
use Rattle.saftvrqmie_dispersion.specs.Perturbation.{DispersionIn, first_mie, first_quantum, first_order_by, second_turn, second_order_by, combine_of, first_order_ij, second_order_ij}
use Rattle.saftvrqmie_dispersion_sums.specs.State.{SheetsIn}
use Rattle.saftvrqmie_hard_sphere.specs.HardSphere.{zeta_added, hard_sphere_of}
use Rattle.saftvrqmie_hard_sphere.specs.HardSphere.{zeta, hard_sphere}
use Rattle.saftvrqmie_hard_sphere.specs.NonAdditive.{non_additive_ij}
use Rattle.saftvrqmie_hard_sphere.specs.NonAdditive.{non_additive_turn, non_additive_column, non_additive_sum, density_shares, non_additive}
use Rattle.saftvrqmie_dispersion.specs.Sums.{lead}
use Rattle.saftvrqmie_dispersion_sums.specs.Dispersion.{MixtureIn, packing_turn, packing_row, packing, alpha_turn, alpha_row, alphas, first_turn, first_row, first, second_pair_turn, second_row, second, third_turn, third_row, third, mixture, dispersion}
use Rattle.saftvrqmie_energies.specs.Energies.{contributions}
use Rattle.slopes_values.proofs.OneSided.{Le, le_refl, then_le, cond_le, walk_le}
use Rattle.slopes_values.proofs.Full.{full, pow_le}

-- ---- whatever the powers are
module _ (P P' Q Q' : Mixed → Ans Mixed) (p : (x : Mixed) → Le (P x) (P' x)) (q : (x : Mixed) → Le (Q x) (Q' x)) where
  combine_le : (l e z fi fj : Mixed) → Le (combine mixed_one l e z fi fj P Q) (combine mixed_one l e z fi fj P' Q')
  unfolding combine sutherland b ilambda jlambda
  combine_le l e z fi fj =
      then_le (then_le (p _) (λ _. le_refl)) (λ _.
      then_le (then_le (then_le (q _) (λ _. le_refl)) (λ _. then_le (then_le (q _) (λ _. then_le (q _) (λ _. le_refl))) (λ _. then_le (p _) (λ _. le_refl)))) (λ _. le_refl))

module _ (d : DispersionIn Mixed) (C C' : Mixed → Ans Mixed) (c : (x : Mixed) → Le (C x) (C' x)) where
  first_quantum_le : (m a r v : Mixed) → Le (first_quantum mixed_one d C m a r v) (first_quantum mixed_one d C' m a r v)
  unfolding first_quantum
  first_quantum_le m a r v = then_le (c _) (λ _. then_le (c _) (λ _. le_refl))

  first_by_le : Le (first_order_by mixed_one d C) (first_order_by mixed_one d C')
  unfolding first_order_by first_mie
  first_by_le =
      then_le (then_le (c _) (λ _. then_le (c _) (λ _. le_refl))) (λ v.
      then_le (cond_le (first_order d.order) (held v) (first_quantum_le _ _ _ v)) (λ v₁.
      then_le (cond_le (second_order d.order) (held v₁) (first_quantum_le _ _ _ v₁)) (λ _. le_refl)))

  second_by_le : Le (second_order_by mixed_one d C) (second_order_by mixed_one d C')
  unfolding second_order_by second_turn
  second_by_le = then_le (walk_le _ _ _ _ (λ _ _. then_le (c _) (λ _. then_le (c _) (λ _. then_le (c _) (λ _. le_refl))))) (λ _. le_refl)

module _ (E : Answers) where
  abbrev F : Functions Mixed
  F = mixed_functions E

  abbrev G : Functions Mixed
  G = full E

  -- ---- the dispersion
  combine_of_le : (d : DispersionIn Mixed) (l : Mixed) → Le (combine_of mixed_one F d l) (combine_of mixed_one G d l)
  unfolding combine_of combine_sutherland_and_b
  combine_of_le d l = combine_le (F.powf d.x0) (G.powf d.x0) (F.powf d.x0_eff) (G.powf d.x0_eff) (pow_le E d.x0) (pow_le E d.x0_eff) l d.epsilon_k d.zeta _ _

  first_order_le : (d : DispersionIn Mixed) → Le (first_order_ij mixed_one F d) (first_order_ij mixed_one G d)
  unfolding first_order_ij
  first_order_le d = first_by_le d _ _ (combine_of_le d)

  second_order_le : (d : DispersionIn Mixed) → Le (second_order_ij mixed_one F d) (second_order_ij mixed_one G d)
  unfolding second_order_ij
  second_order_le d = second_by_le d _ _ (combine_of_le d)

  alpha_le : (p : PairIn Mixed) (s e : Mixed) → Le (alpha mixed_one F p s e) (alpha mixed_one G p s e)
  unfolding alpha dmt_of quantum_d prefactor
  alpha_le p s e = then_le (pow_le E (ratio mixed_one p.sigma s) p.la) (λ _. then_le (pow_le E (ratio mixed_one p.sigma s) p.lr) (λ _. le_refl))

  third_le : (n : ℕ) (e x : ℕ → Mixed) (z : Mixed) (a : ℕ → Mixed) → Le (third mixed_one F n e x z a) (third mixed_one G n e x z a)
  unfolding third third_row third_turn third_order_ij
  third_le n e x z a = le_refl

  module _ (s : SheetsIn Mixed) where
    alphas_le : Le (alphas mixed_one F s) (alphas mixed_one G s)
    unfolding alphas alpha_row alpha_turn
    alphas_le = walk_le _ _ _ _ (λ _ _. walk_le _ _ _ _ (λ _ _. then_le (alpha_le _ _ _) (λ _. le_refl)))

    module _ (x : ℕ → Mixed) (w : MixtureIn Mixed) where
      first_le : Le (first mixed_one F s x w) (first mixed_one G s x w)
      unfolding first first_row first_turn lead
      first_le = walk_le _ _ _ _ (λ _ _. walk_le _ _ _ _ (λ _ _. then_le (first_order_le _) (λ _. le_refl)))

      second_le : (a : ℕ → Mixed) → Le (second mixed_one F s x w a) (second mixed_one G s x w a)
      unfolding second second_row second_pair_turn lead
      second_le a = then_le (walk_le _ _ _ _ (λ _ _. walk_le _ _ _ _ (λ _ _. then_le (second_order_le _) (λ _. le_refl)))) (λ _. le_refl)

    module _ (x rho m : ℕ → Mixed) (t : Mixed) where
      dispersion_le : Le (dispersion mixed_one F s x rho m t) (dispersion mixed_one G s x rho m t)
      unfolding dispersion mixture packing packing_row packing_turn
      dispersion_le = then_le alphas_le (λ _. then_le (first_le _ _) (λ _. then_le (second_le _ _ _) (λ _. then_le (third_le _ _ _ _ _) (λ _. le_refl))))

      pub contributions_le : (wanted : Bool) → Le (contributions mixed_one F s x rho m t wanted) (contributions mixed_one G s x rho m t wanted)
      unfolding contributions hard_sphere zeta zeta_added hard_sphere_of non_additive non_additive_sum non_additive_column non_additive_turn non_additive_ij density_shares
      contributions_le wanted = then_le le_refl (λ _. then_le dispersion_le (λ _. le_refl))
