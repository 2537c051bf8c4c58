-- The potential and the contributions with the fuller functions keep what holds with the run's own. Assumes nothing.
use Prim.Native.Nat.{ℕ}
use mathlib.Core.Bool.{Bool}
use Rattle.number.specs.Ans.{Ans, held}
use Rattle.number.specs.Functions.{Functions, Answers}
use Rattle.slopes.specs.Mixed.{Mixed, mixed}
use Rattle.slopes.specs.Rules.{mixed_functions}
use Rattle.saftvrqmie_potential.specs.Potential.{PairIn, PotentialIn, first_order, second_order, prefactor, quantum_d, line, mie, add_first, add_second, after_shared, potential}
use Rattle.saftvrqmie_dispersion_terms.specs.Terms.{sutherland, ilambda, jlambda, b, combine, combine_sutherland_and_b}
use Rattle.saftvrqmie_dispersion.specs.Alpha.{ratio, dmt_of, alpha, third_order_ij}
use Rattle.saftvrqmie_dispersion.specs.Perturbation.{DispersionIn, first_mie, first_quantum, first_order_by, second_turn, second_order_by, combine_of, first_order_ij, second_order_ij}
use Rattle.saftvrqmie_dispersion_sums.specs.State.{SheetsIn}
use Rattle.saftvrqmie_hard_sphere.specs.HardSphere.{zeta_added, hard_sphere_of}
use Rattle.saftvrqmie_hard_sphere.specs.HardSphere.{zeta, hard_sphere}
use Rattle.saftvrqmie_hard_sphere.specs.NonAdditive.{non_additive_ij}
use Rattle.saftvrqmie_hard_sphere.specs.NonAdditive.{non_additive_turn, non_additive_column, non_additive_sum, density_shares, non_additive}
use Rattle.saftvrqmie_dispersion.specs.Sums.{lead}
use Rattle.saftvrqmie_dispersion_sums.specs.Dispersion.{MixtureIn, packing_turn, packing_row, packing, alpha_turn, alpha_row, alphas, first_turn, first_row, first, second_pair_turn, second_row, second, third_turn, third_row, third, mixture, dispersion}
use Rattle.saftvrqmie_energies.specs.Energies.{contributions}
use Rattle.slopes_values.proofs.OneSided.{Le, le_refl, then_le, cond_le, walk_le}
use Rattle.slopes_values.proofs.Full.{full, pow_le}

-- ---- whatever the powers are
module _ (P P' Q Q' : Mixed → Ans Mixed) (p : (x : Mixed) → Le (P x) (P' x)) (q : (x : Mixed) → Le (Q x) (Q' x)) where
  combine_le : (l e z fi fj : Mixed) → Le (combine mixed l e z fi fj P Q) (combine mixed l e z fi fj P' Q')
  unfolding combine sutherland b ilambda jlambda
  combine_le l e z fi fj =
      then_le (then_le (p _) (λ _. le_refl)) (λ _.
      then_le (then_le (then_le (q _) (λ _. le_refl)) (λ _. then_le (then_le (q _) (λ _. then_le (q _) (λ _. le_refl))) (λ _. then_le (p _) (λ _. le_refl)))) (λ _. le_refl))

module _ (d : DispersionIn Mixed) (C C' : Mixed → Ans Mixed) (c : (x : Mixed) → Le (C x) (C' x)) where
  first_quantum_le : (m a r v : Mixed) → Le (first_quantum mixed d C m a r v) (first_quantum mixed d C' m a r v)
  unfolding first_quantum
  first_quantum_le m a r v = then_le (c _) (λ _. then_le (c _) (λ _. le_refl))

  first_by_le : Le (first_order_by mixed d C) (first_order_by mixed d C')
  unfolding first_order_by first_mie
  first_by_le =
      then_le (then_le (c _) (λ _. then_le (c _) (λ _. le_refl))) (λ v.
      then_le (cond_le (first_order d.order) (held v) (first_quantum_le _ _ _ v)) (λ v₁.
      then_le (cond_le (second_order d.order) (held v₁) (first_quantum_le _ _ _ v₁)) (λ _. le_refl)))

  second_by_le : Le (second_order_by mixed d C) (second_order_by mixed d C')
  unfolding second_order_by second_turn
  second_by_le = then_le (walk_le _ _ _ _ (λ _ _. then_le (c _) (λ _. then_le (c _) (λ _. then_le (c _) (λ _. le_refl))))) (λ _. le_refl)

module _ (E : Answers) where
  abbrev F : Functions Mixed
  F = mixed_functions E

  abbrev G : Functions Mixed
  G = full E

  -- ---- the potential
  module _ (p : PairIn Mixed) (r : Mixed) where
    line_le : (er ea : Mixed) (f : Mixed → Mixed → Mixed → Mixed → Mixed) → Le (line mixed F p r er ea f) (line mixed G p r er ea f)
    unfolding line
    line_le er ea f = then_le (pow_le E r er) (λ _. then_le (pow_le E p.sigma p.lr) (λ _. then_le (pow_le E r ea) (λ _. then_le (pow_le E p.sigma p.la) (λ _. le_refl))))

    mie_le : Le (mie mixed F p r) (mie mixed G p r)
    unfolding mie
    mie_le = then_le (line_le _ _ _) (λ _. then_le (line_le _ _ _) (λ _. then_le (line_le _ _ _) (λ _. le_refl)))

    add_first_le : (v : PotentialIn Mixed) → Le (add_first mixed F p r v) (add_first mixed G p r v)
    unfolding add_first quantum_d prefactor
    add_first_le v = then_le (line_le _ _ _) (λ _. then_le (line_le _ _ _) (λ _. then_le (line_le _ _ _) (λ _. le_refl)))

    add_second_le : (v : PotentialIn Mixed) → Le (add_second mixed F p r v) (add_second mixed G p r v)
    unfolding add_second quantum_d prefactor
    add_second_le v = then_le (line_le _ _ _) (λ _. then_le (line_le _ _ _) (λ _. then_le (line_le _ _ _) (λ _. le_refl)))

    pub potential_le : Le (potential mixed F p r) (potential mixed G p r)
    unfolding potential after_shared
    potential_le = then_le mie_le (λ v. then_le (cond_le (first_order p.order) (held v) (add_first_le v)) (λ v₁. then_le (cond_le (second_order p.order) (held v₁) (add_second_le v₁)) (λ _. le_refl)))

  -- ---- the dispersion
  combine_of_le : (d : DispersionIn Mixed) (l : Mixed) → Le (combine_of mixed F d l) (combine_of mixed G d l)
  unfolding combine_of combine_sutherland_and_b
  combine_of_le d l = combine_le (F.powf d.x0) (G.powf d.x0) (F.powf d.x0_eff) (G.powf d.x0_eff) (pow_le E d.x0) (pow_le E d.x0_eff) l d.epsilon_k d.zeta _ _

  first_order_le : (d : DispersionIn Mixed) → Le (first_order_ij mixed F d) (first_order_ij mixed G d)
  unfolding first_order_ij
  first_order_le d = first_by_le d _ _ (combine_of_le d)

  second_order_le : (d : DispersionIn Mixed) → Le (second_order_ij mixed F d) (second_order_ij mixed G d)
  unfolding second_order_ij
  second_order_le d = second_by_le d _ _ (combine_of_le d)

  alpha_le : (p : PairIn Mixed) (s e : Mixed) → Le (alpha mixed F p s e) (alpha mixed G p s e)
  unfolding alpha dmt_of quantum_d prefactor
  alpha_le p s e = then_le (pow_le E (ratio mixed p.sigma s) p.la) (λ _. then_le (pow_le E (ratio mixed p.sigma s) p.lr) (λ _. le_refl))

  third_le : (n : ℕ) (e x : ℕ → Mixed) (z : Mixed) (a : ℕ → Mixed) → Le (third mixed F n e x z a) (third mixed G n e x z a)
  unfolding third third_row third_turn third_order_ij
  third_le n e x z a = le_refl

  module _ (s : SheetsIn Mixed) where
    alphas_le : Le (alphas mixed F s) (alphas mixed G s)
    unfolding alphas alpha_row alpha_turn
    alphas_le = walk_le _ _ _ _ (λ _ _. walk_le _ _ _ _ (λ _ _. then_le (alpha_le _ _ _) (λ _. le_refl)))

    module _ (x : ℕ → Mixed) (w : MixtureIn Mixed) where
      first_le : Le (first mixed F s x w) (first mixed G s x w)
      unfolding first first_row first_turn lead
      first_le = walk_le _ _ _ _ (λ _ _. walk_le _ _ _ _ (λ _ _. then_le (first_order_le _) (λ _. le_refl)))

      second_le : (a : ℕ → Mixed) → Le (second mixed F s x w a) (second mixed G s x w a)
      unfolding second second_row second_pair_turn lead
      second_le a = then_le (walk_le _ _ _ _ (λ _ _. walk_le _ _ _ _ (λ _ _. then_le (second_order_le _) (λ _. le_refl)))) (λ _. le_refl)

    module _ (x rho m : ℕ → Mixed) (t : Mixed) where
      dispersion_le : Le (dispersion mixed F s x rho m t) (dispersion mixed G s x rho m t)
      unfolding dispersion mixture packing packing_row packing_turn
      dispersion_le = then_le alphas_le (λ _. then_le (first_le _ _) (λ _. then_le (second_le _ _ _) (λ _. then_le (third_le _ _ _ _ _) (λ _. le_refl))))

      pub contributions_le : (wanted : Bool) → Le (contributions mixed F s x rho m t wanted) (contributions mixed G s x rho m t wanted)
      unfolding contributions hard_sphere zeta zeta_added hard_sphere_of non_additive non_additive_sum non_additive_column non_additive_turn non_additive_ij density_shares
      contributions_le wanted = then_le le_refl (λ _. then_le dispersion_le (λ _. le_refl))
