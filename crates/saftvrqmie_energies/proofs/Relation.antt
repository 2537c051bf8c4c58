-- Each formula of the energies keeps every relation that its operations and calls keep. Assumes nothing.
use Prim.Native.Nat.{ℕ, ◌+◌, ◌-◌}
use lib.Dec.{eqb}
use lib.Ieee.{Float, nan}
use mathlib.Core.Path.{refl}
use mathlib.Core.Bool.{Bool}
use mathlib.Core.List.{List}
use Rattle.number.specs.Arith.{Arith}
use Rattle.number.specs.Functions.{Functions}
use Rattle.sizes.specs.Sizes.{side, sheet, cell}
use Rattle.number.proofs.Rel.{Rel, FunRel, Both, both_held, then_both, cond_rel, turns_rel, walk_rel}
use Rattle.saftvrqmie_parameters.specs.declared.SaftVRQMiePars.{SaftVRQMiePars}
use Rattle.saftvrqmie_potential.specs.Potential.{recip}
use Rattle.saftvrqmie_potential.proofs.Relation.{PairR}
use Rattle.saftvrqmie_dispersion.proofs.Relation.{DispersionR, alpha_rel, chi_rel, k_factor_rel, dispersion_pair_rel, first_order_ij_rel, second_order_ij_rel, third_order_ij_rel}
use Rattle.number.specs.Lists.{nth}
use Rattle.mie_parameters.specs.Sums.{weighted, orders_sum}
use Rattle.mie_parameters.specs.Places.{in_places}
use Rattle.saftvrqmie_dispersion_sums.specs.State.{SheetsIn, sheets_of_state}
use Rattle.saftvrqmie_hard_sphere.specs.HardSphere.{ZetaIn, Zeta23In, zeta_added, frac1mz3, zeta23_added, hard_sphere_of}
use Rattle.saftvrqmie_hard_sphere.specs.HardSphere.{zeta, zeta23_sums, zeta23, hard_sphere}
use Rattle.saftvrqmie_hard_sphere.specs.NonAdditive.{g_hs, non_additive_ij}
use Rattle.saftvrqmie_hard_sphere.specs.NonAdditive.{non_additive_turn, non_additive_column, non_additive_sum, density_shares, non_additive}
use Rattle.saftvrqmie_dispersion.specs.Sums.{lead}
use Rattle.saftvrqmie_dispersion_sums.specs.Dispersion.{MixtureIn, inv_xs_sum, segment_fractions, packing_turn, packing_row, packing, alpha_turn, alpha_row, alphas, dispersion_pair_at, lead_at, first_turn, first_row, first, second_pair_turn, second_row, second, third_turn, third_row, third, mixture, dispersion}
use Rattle.saftvrqmie_energies.specs.Energies.{EnergiesIn, contributions, contributions_of}
use Rattle.saftvrqmie_energies.proofs.Lists.{All, all_replicate, all_set, all_get}

pub record ZetaR {S T : Type 0} (R : S → T → Type 0) (z : ZetaIn S) (w : ZetaIn T) : Type 0 where
  pub z0 : R z.z0 w.z0
  pub z1 : R z.z1 w.z1
  pub z2 : R z.z2 w.z2
  pub z3 : R z.z3 w.z3

record Zeta23R {S T : Type 0} (R : S → T → Type 0) (z : Zeta23In S) (w : Zeta23In T) : Type 0 where
  y0 : R z.y0 w.y0
  y1 : R z.y1 w.y1

record MixtureR {S T : Type 0} (R : S → T → Type 0) (v : MixtureIn S) (w : MixtureIn T) : Type 0 where
  rho_s : R v.rho_s w.rho_s
  zeta : R v.zeta w.zeta
  zeta_bar : R v.zeta_bar w.zeta_bar

-- the sheets with n components; sheets of n are it of themselves
abbrev pub counted : {N : Type 0} → ℕ → SheetsIn N → SheetsIn N
counted n s = record { count = n; pair = s.pair; sigma_eff = s.sigma_eff; hs_diameter = s.hs_diameter; epsilon_k_eff = s.epsilon_k_eff; quantum_d = s.quantum_d }

-- two runs' sheets, entry by entry
pub record SheetsR {S T : Type 0} (R : S → T → Type 0) (s : SheetsIn S) (t : SheetsIn T) : Type 0 where
  pub pair : (e : ℕ) → PairR R (s.pair e) (t.pair e)
  pub sigma_eff : (e : ℕ) → R (s.sigma_eff e) (t.sigma_eff e)
  pub hs_diameter : (e : ℕ) → R (s.hs_diameter e) (t.hs_diameter e)
  pub epsilon_k_eff : (e : ℕ) → R (s.epsilon_k_eff e) (t.epsilon_k_eff e)
  pub quantum_d : (e : ℕ) → R (s.quantum_d e) (t.quantum_d e)

pub record EnergiesR {S T : Type 0} (R : S → T → Type 0) (v : EnergiesIn S) (w : EnergiesIn T) : Type 0 where
  pub hard_sphere : R v.hard_sphere w.hard_sphere
  pub dispersion : R v.dispersion w.dispersion
  pub non_additive : R v.non_additive w.non_additive

module _ (A B : Arith) (K : Rel A B) where
  open K use {R, r_add, r_sub, r_mul, r_div, r_neg, r_pow, r_lit, r_after}

  abbrev Each : (ℕ → A.Num) → (ℕ → B.Num) → Type 0
  Each f g = (i : ℕ) → R (f i) (g i)

  -- ---- what contributions share
  nth_rel : {l : List A.Num} {l' : List B.Num} → All R l l' → Each (nth A l) (nth B l')
  nth_rel h i = all_get R i _ _ _ _ h (r_lit nan)

  in_places_rel : (n : ℕ) {f : ℕ → A.Num} {g : ℕ → B.Num} → Each f g → All R (in_places A n f) (in_places B n g)
  unfolding in_places
  in_places_rel n h = turns_rel (All R) n _ _ (λ i l l' p. all_set R i l l' _ _ p (h i)) (all_replicate R side _ _ (r_lit _))

  module _ (n : ℕ) {x m : ℕ → A.Num} {x' m' : ℕ → B.Num} (px : Each x x') (pm : Each m m') where
    weighted_rel : R (weighted A n x m) (weighted B n x' m')
    unfolding weighted
    weighted_rel = turns_rel R n _ _ (λ i r r' p. r_add p (r_mul (px i) (pm i))) (r_lit _)

    inv_xs_sum_rel : R (inv_xs_sum A n x m) (inv_xs_sum B n x' m')
    unfolding inv_xs_sum
    inv_xs_sum_rel = r_div (r_lit _) weighted_rel

    segment_fractions_rel : All R (segment_fractions A n x m) (segment_fractions B n x' m')
    unfolding segment_fractions
    segment_fractions_rel = in_places_rel n (λ i. r_mul (r_mul (px i) (pm i)) inv_xs_sum_rel)

  -- ---- hard sphere
  frac1mz3_rel : {z : A.Num} {z' : B.Num} → R z z' → R (frac1mz3 A z) (frac1mz3 B z')
  unfolding frac1mz3
  frac1mz3_rel p = r_neg (r_div (r_lit _) (r_sub p (r_lit _)))

  zeta23_added_rel : {x d m : A.Num} {x' d' m' : B.Num} {y : Zeta23In A.Num} {y' : Zeta23In B.Num} → R x x' → R d d' → R m m' → Zeta23R R y y' → Zeta23R R (zeta23_added A x d m y) (zeta23_added B x' d' m' y')
  unfolding zeta23_added
  zeta23_added_rel x d m y = record { y0 = r_add y.y0 (r_mul (r_mul x (r_pow 2 d)) m); y1 = r_add y.y1 (r_mul (r_mul x (r_pow 3 d)) m) }

  module _ (n : ℕ) {x d m : ℕ → A.Num} {x' d' m' : ℕ → B.Num} (px : Each x x') (pd : Each d d') (pm : Each m m') where
    zeta23_sums_rel : Zeta23R R (zeta23_sums A n x d m) (zeta23_sums B n x' d' m')
    unfolding zeta23_sums
    zeta23_sums_rel = turns_rel (Zeta23R R) n _ _ (λ i y y' p. zeta23_added_rel (px i) (pd i) (pm i) p) (record { y0 = r_lit _; y1 = r_lit _ })

    zeta23_rel : R (zeta23 A n x d m) (zeta23 B n x' d' m')
    unfolding zeta23
    zeta23_rel = r_div zeta23_sums_rel.y0 zeta23_sums_rel.y1

  -- ---- non-additive
  g_hs_rel : {di dj z f : A.Num} {di' dj' z' f' : B.Num} → R di di' → R dj dj' → R z z' → R f f' → R (g_hs A di dj z f) (g_hs B di' dj' z' f')
  unfolding g_hs
  g_hs_rel p q z f =
      let mu = r_div (r_mul p q) (r_add p q) in
      r_add (r_add f (r_mul (r_mul (r_mul mu z) (r_pow 2 f)) (r_lit _))) (r_mul (r_mul (r_pow 2 (r_mul mu z)) (r_pow 3 f)) (r_lit _))

  -- ---- dispersion
  perturbation_rel : {t a b c : A.Num} {t' a' b' c' : B.Num} → R t t' → R a a' → R b b' → R c c' → R (orders_sum A (recip A t) a b c) (orders_sum B (recip B t') a' b' c')
  unfolding orders_sum
  perturbation_rel t a b c = let i = r_div (r_lit _) t in r_add (r_add (r_mul a i) (r_mul b (r_pow 2 i))) (r_mul c (r_pow 3 i))

  module _ (F : Functions A.Num) (G : Functions B.Num) (H : FunRel R F G) where
    open H use {r_ln1p, r_pi, r_frac_pi_6}

    zeta_added_rel : {x d m : A.Num} {x' d' m' : B.Num} {z : ZetaIn A.Num} {z' : ZetaIn B.Num} → R x x' → R d d' → R m m' → ZetaR R z z' → ZetaR R (zeta_added A F x d m z) (zeta_added B G x' d' m' z')
    unfolding zeta_added
    zeta_added_rel x d m z =
        let w = r_mul (r_div r_pi (r_lit _)) m in
        record {
          z0 = r_add z.z0 (r_mul (r_mul x (r_pow 0 d)) w);
          z1 = r_add z.z1 (r_mul (r_mul x (r_pow 1 d)) w);
          z2 = r_add z.z2 (r_mul (r_mul x (r_pow 2 d)) w);
          z3 = r_add z.z3 (r_mul (r_mul x (r_pow 3 d)) w);
        }

    pub zeta_rel : (n : ℕ) {x d m : ℕ → A.Num} {x' d' m' : ℕ → B.Num} → Each x x' → Each d d' → Each m m' → ZetaR R (zeta A F n x d m) (zeta B G n x' d' m')
    unfolding zeta
    zeta_rel n x d m = turns_rel (ZetaR R) n _ _ (λ i z z' p. zeta_added_rel (x i) (d i) (m i) p) (record { z0 = r_lit _; z1 = r_lit _; z2 = r_lit _; z3 = r_lit _ })

    hard_sphere_of_rel : {z : ZetaIn A.Num} {z' : ZetaIn B.Num} {y l : A.Num} {y' l' : B.Num} → ZetaR R z z' → R y y' → R l l' → R (hard_sphere_of A F z y l) (hard_sphere_of B G z' y' l')
    unfolding hard_sphere_of
    hard_sphere_of_rel z y l =
        let f = frac1mz3_rel z.z3 in
        let a = r_mul (r_mul (r_mul z.z1 z.z2) f) (r_lit _) in
        let b = r_mul (r_mul (r_pow 2 z.z2) (r_pow 2 f)) y in
        let c = r_mul (r_sub (r_mul z.z2 (r_pow 2 y)) z.z0) l in
        r_div (r_mul (r_add (r_add a b) c) (r_lit _)) r_pi

    pub hard_sphere_rel : (n : ℕ) {x rho d m : ℕ → A.Num} {x' rho' d' m' : ℕ → B.Num} → Each x x' → Each rho rho' → Each d d' → Each m m' → Both R (hard_sphere A F n x rho d m) (hard_sphere B G n x' rho' d' m')
    unfolding hard_sphere
    hard_sphere_rel n x rho d m =
        let z = zeta_rel n rho d m in
        then_both (r_ln1p (r_mul z.z3 (r_lit _))) (λ _ _ l. both_held (hard_sphere_of_rel z (zeta23_rel n x d m) l))

    non_additive_ij_rel : {r x y d e c z f : A.Num} {r' x' y' d' e' c' z' f' : B.Num} → R r r' → R x x' → R y y' → R d d' → R e e' → R c c' → R z z' → R f f' → R (non_additive_ij A F r x y d e c z f) (non_additive_ij B G r' x' y' d' e' c' z' f')
    unfolding non_additive_ij
    non_additive_ij_rel r x y d e c z f =
        let a = r_mul (r_add d e) (r_lit _) in
        r_mul (r_mul (r_mul (r_mul (r_mul (r_mul (r_mul (r_neg r) x) y) (r_pow 2 a)) (g_hs_rel d e z f)) (r_sub a c)) (r_lit _)) r_pi

    module _ (n : ℕ) where
      module _ {x d : ℕ → A.Num} {x' d' : ℕ → B.Num} {r z f : A.Num} {r' z' f' : B.Num} (px : Each x x') (pd : Each d d') (pr : R r r') (pz : R z z') (pf : R f f') where
        non_additive_turn_rel : (j i : ℕ) (v : A.Num) (v' : B.Num) → R v v' → R (non_additive_turn A F n x d r z f j i v) (non_additive_turn B G n x' d' r' z' f' j i v')
        unfolding non_additive_turn
        non_additive_turn_rel j i v v' p = r_add p (non_additive_ij_rel pr (px i) (px j) (pd _) (pd _) (pd _) pz pf)

        non_additive_column_rel : (j : ℕ) (v : A.Num) (v' : B.Num) → R v v' → R (non_additive_column A F n x d r z f j v) (non_additive_column B G n x' d' r' z' f' j v')
        unfolding non_additive_column
        non_additive_column_rel j v v' p = turns_rel R n _ _ (non_additive_turn_rel j) p

        non_additive_sum_rel : R (non_additive_sum A F n x d r z f) (non_additive_sum B G n x' d' r' z' f')
        unfolding non_additive_sum
        non_additive_sum_rel = turns_rel R n _ _ non_additive_column_rel (r_lit _)

      density_shares_rel : {r : A.Num} {r' : B.Num} {rho m : ℕ → A.Num} {rho' m' : ℕ → B.Num} → R r r' → Each rho rho' → Each m m' → All R (density_shares A F n r rho m) (density_shares B G n r' rho' m')
      unfolding density_shares
      density_shares_rel r rho m = in_places_rel n (λ i. r_div (r_mul (rho i) (m i)) r)

      pub non_additive_rel : {rho m d : ℕ → A.Num} {rho' m' d' : ℕ → B.Num} → Each rho rho' → Each m m' → Each d d' → R (non_additive A F n rho m d) (non_additive B G n rho' m' d')
      unfolding non_additive
      non_additive_rel rho m d =
          let z = zeta_rel n rho (λ i. d _) m in
          let r = weighted_rel n rho m in
          r_after z.z0 (r_after z.z1 (r_mul r (non_additive_sum_rel (nth_rel (density_shares_rel r rho m)) d r z.z2 (frac1mz3_rel z.z3))))

    lead_rel : (i j : ℕ) {x y r d : A.Num} {x' y' r' d' : B.Num} → R x x' → R y y' → R r r' → R d d' → R (lead A F i j x y r d) (lead B G i j x' y' r' d')
    unfolding lead
    lead_rel i j x y r d = r_mul (r_mul (r_mul (r_mul (r_mul x y) (cond_rel R (eqb i j) (eqb i j) refl (r_lit _) (r_lit _))) r_frac_pi_6) r) (r_pow 3 d)

    module _ (n : ℕ) {x d : ℕ → A.Num} {x' d' : ℕ → B.Num} (px : Each x x') (pd : Each d d') where
      packing_turn_rel : (i j : ℕ) (v : A.Num) (v' : B.Num) → R v v' → R (packing_turn A F n x d i j v) (packing_turn B G n x' d' i j v')
      unfolding packing_turn
      packing_turn_rel i j v v' p = r_add p (r_mul (r_mul (px i) (px j)) (r_pow 3 (pd _)))

      packing_row_rel : (i : ℕ) (v : A.Num) (v' : B.Num) → R v v' → R (packing_row A F n x d i v) (packing_row B G n x' d' i v')
      unfolding packing_row
      packing_row_rel i v v' p = turns_rel R n _ _ (packing_turn_rel i) p

      packing_rel : {r : A.Num} {r' : B.Num} → R r r' → R (packing A F n x d r) (packing B G n x' d' r')
      unfolding packing
      packing_rel r = r_mul (r_mul (turns_rel R n _ _ packing_row_rel (r_lit _)) r_frac_pi_6) r

    mixture_rel : (n : ℕ) {s h x rho m : ℕ → A.Num} {s' h' x' rho' m' : ℕ → B.Num} → Each s s' → Each h h' → Each x x' → Each rho rho' → Each m m' → MixtureR R (mixture A F n s h x rho m) (mixture B G n s' h' x' rho' m')
    unfolding mixture
    mixture_rel n s h x rho m =
        let r = weighted_rel n rho m in
        record { rho_s = r; zeta = packing_rel n x h r; zeta_bar = packing_rel n x s r }

    module _ (n : ℕ) {e x a : ℕ → A.Num} {e' x' a' : ℕ → B.Num} {z : A.Num} {z' : B.Num} (pe : Each e e') (px : Each x x') (pz : R z z') (pa : Each a a') where
      third_turn_rel : (i j : ℕ) (v : A.Num) (v' : B.Num) → R v v' → Both R (third_turn A F n e x z a i j v) (third_turn B G n e' x' z' a' i j v')
      unfolding third_turn
      third_turn_rel i j v v' p = then_both (third_order_ij_rel A B K F G H (pe _) (pa _) pz) (λ _ _ t. both_held (r_add p (r_mul (r_mul (px i) (px j)) t)))

      third_row_rel : (i : ℕ) (v : A.Num) (v' : B.Num) → R v v' → Both R (third_row A F n e x z a i v) (third_row B G n e' x' z' a' i v')
      unfolding third_row
      third_row_rel i v v' p = walk_rel R n _ _ (third_turn_rel i) p

      third_rel : Both R (third A F n e x z a) (third B G n e' x' z' a')
      unfolding third
      third_rel = walk_rel R n _ _ third_row_rel (r_lit _)

    module _ {s : SheetsIn A.Num} {s' : SheetsIn B.Num} (n : ℕ) (P : SheetsR R s s') where
      abbrev t : SheetsIn A.Num
      t = counted n s

      abbrev t' : SheetsIn B.Num
      t' = counted n s'

      alpha_turn_rel : (i k : ℕ) (l : List A.Num) (l' : List B.Num) → All R l l' → Both (All R) (alpha_turn A F t i k l) (alpha_turn B G t' i k l')
      unfolding alpha_turn
      alpha_turn_rel i k l l' p =
          let e = cell i (i + k) in
          then_both (alpha_rel A B K F G H (P.pair e) (P.sigma_eff e) (P.epsilon_k_eff e)) (λ a a' h.
          both_held (all_set R (cell (i + k) i) _ _ a a' (all_set R e l l' a a' p h) h))

      alpha_row_rel : (i : ℕ) (l : List A.Num) (l' : List B.Num) → All R l l' → Both (All R) (alpha_row A F t i l) (alpha_row B G t' i l')
      unfolding alpha_row
      alpha_row_rel i l l' p = walk_rel (All R) (n - i) _ _ (alpha_turn_rel i) p

      alphas_rel : Both (All R) (alphas A F t) (alphas B G t')
      unfolding alphas
      alphas_rel = walk_rel (All R) n _ _ alpha_row_rel (all_replicate R sheet _ _ (r_lit _))

      module _ {x : ℕ → A.Num} {x' : ℕ → B.Num} {w : MixtureIn A.Num} {w' : MixtureIn B.Num} (px : Each x x') (W : MixtureR R w w') where
        pair_at_rel : (e : ℕ) → DispersionR R (dispersion_pair_at A F t x w e) (dispersion_pair_at B G t' x' w' e)
        pair_at_rel e = dispersion_pair_rel A B K (P.pair e) (P.hs_diameter e) (P.sigma_eff e) (P.quantum_d e) W.zeta

        lead_at_rel : (i j : ℕ) → R (lead_at A F t x w i j) (lead_at B G t' x' w' i j)
        lead_at_rel i j = lead_rel i j (px i) (px j) W.rho_s (P.hs_diameter _)

        first_turn_rel : (i k : ℕ) (v : A.Num) (v' : B.Num) → R v v' → Both R (first_turn A F t x w i k v) (first_turn B G t' x' w' i k v')
        unfolding first_turn
        first_turn_rel i k v v' p = then_both (first_order_ij_rel A B K F G H (pair_at_rel _)) (λ _ _ t. both_held (r_add p (r_mul (lead_at_rel i (i + k)) t)))

        first_row_rel : (i : ℕ) (v : A.Num) (v' : B.Num) → R v v' → Both R (first_row A F t x w i v) (first_row B G t' x' w' i v')
        unfolding first_row
        first_row_rel i v v' p = walk_rel R (n - i) _ _ (first_turn_rel i) p

        first_rel : Both R (first A F t x w) (first B G t' x' w')
        unfolding first
        first_rel = walk_rel R n _ _ first_row_rel (r_lit _)

        module _ {a : ℕ → A.Num} {a' : ℕ → B.Num} (pa : Each a a') where
          second_turn_rel : (i k : ℕ) (v : A.Num) (v' : B.Num) → R v v' → Both R (second_pair_turn A F t x w a i k v) (second_pair_turn B G t' x' w' a' i k v')
          unfolding second_pair_turn
          second_turn_rel i k v v' p =
              then_both (second_order_ij_rel A B K F G H (pair_at_rel _)) (λ _ _ t.
              both_held (r_add p (r_mul (r_mul (lead_at_rel i (i + k)) (r_add (chi_rel A B K (pa _) W.zeta_bar) (r_lit _))) t)))

          second_row_rel : (i : ℕ) (v : A.Num) (v' : B.Num) → R v v' → Both R (second_row A F t x w a i v) (second_row B G t' x' w' a' i v')
          unfolding second_row
          second_row_rel i v v' p = walk_rel R (n - i) _ _ (second_turn_rel i) p

          second_rel : Both R (second A F t x w a) (second B G t' x' w' a')
          unfolding second
          second_rel = then_both (walk_rel R n _ _ second_row_rel (r_lit _)) (λ _ _ v. both_held (r_mul v (k_factor_rel A B K W.zeta)))

      pub dispersion_rel : {x rho m : ℕ → A.Num} {x' rho' m' : ℕ → B.Num} {tm : A.Num} {tm' : B.Num} → Each x x' → Each rho rho' → Each m m' → R tm tm' → Both R (dispersion A F t x rho m tm) (dispersion B G t' x' rho' m' tm')
      unfolding dispersion
      dispersion_rel x rho m t =
          let xs = nth_rel (segment_fractions_rel n x m) in
          let W = mixture_rel n P.sigma_eff P.hs_diameter xs rho m in
          then_both alphas_rel (λ _ _ l.
          then_both (first_rel xs W) (λ _ _ a1.
          then_both (second_rel xs W (nth_rel l)) (λ _ _ a2.
          then_both (third_rel n P.epsilon_k_eff xs W.zeta_bar (nth_rel l)) (λ _ _ a3.
          both_held (r_mul (weighted_rel n rho m) (perturbation_rel t a1 a2 a3))))))

      pub contributions_rel : {x rho m : ℕ → A.Num} {x' rho' m' : ℕ → B.Num} {tm : A.Num} {tm' : B.Num} → Each x x' → Each rho rho' → Each m m' → R tm tm' → (wanted : Bool)
          → Both (EnergiesR R) (contributions A F t x rho m tm wanted) (contributions B G t' x' rho' m' tm' wanted)
      unfolding contributions
      contributions_rel x rho m t wanted =
          then_both (hard_sphere_rel n x rho (λ i. P.hs_diameter _) m) (λ _ _ h.
          then_both (dispersion_rel x rho m t) (λ _ _ d.
          both_held (record { hard_sphere = h; dispersion = d; non_additive = cond_rel R wanted wanted refl (non_additive_rel n rho m P.hs_diameter) (r_lit _) })))

    -- the contributions of a call's lists: every input enters by its point
    pub contributions_of_rel : (s : SaftVRQMiePars) (t : Float) (x rho table : List Float) (wanted : Bool) → Both (EnergiesR R) (contributions_of A F s t x rho table wanted) (contributions_of B G s t x rho table wanted)
    contributions_of_rel s t x rho table wanted =
        contributions_rel {s = sheets_of_state A s.count s.sheets s.orders t table} {s' = sheets_of_state B s.count s.sheets s.orders t table} s.count
        (record {
          pair = λ e. record { sigma = r_lit _; epsilon_k = r_lit _; c = r_lit _; lr = r_lit _; la = r_lit _; mass = r_lit _; order = refl; temperature = r_lit _ };
          sigma_eff = λ e. r_lit _;
          hs_diameter = λ e. r_lit _;
          epsilon_k_eff = λ e. r_lit _;
          quantum_d = λ e. r_lit _;
        })
        (λ i. r_lit _) (λ i. r_lit _) (λ i. r_lit _) (r_lit t) wanted
