-- The properties and both energies keep every relation that their operations and calls keep. Assumes nothing.
use Prim.Native.Nat.{ℕ, zero, suc, ◌+◌}
use lib.Ieee.{Float, nan}
use mathlib.Core.Path.{refl}
use mathlib.Core.Bool.{Bool}
use lib.ListN.{get_or, set, replicate}
use mathlib.Core.List.{List, [], ◌∷◌}
use Rattle.number.specs.Arith.{Arith, zero64}
use Rattle.sizes.specs.Sizes.{side}
use Rattle.number.specs.Functions.{Functions}
use Rattle.number.proofs.Rel.{Rel, FunRel, Both, both_held, then_both, cond_rel, turns_rel, walk_rel}
use Rattle.dual.specs.Dual.{DualOf}
use Rattle.dual.proofs.Relation.{Duals}
use Rattle.saftvrmie_parameters.specs.declared.PairParameters.{PairParameters}
use Rattle.saftvrmie_parameters.specs.declared.SaftVRMiePars.{SaftVRMiePars}
use Rattle.saftvrmie_dispersion.specs.Answer.{pair_in}
use Rattle.saftvrmie_dispersion.specs.Sutherland.{FluidIn}
use Rattle.saftvrmie_dispersion.specs.Terms.{PairIn, BarIn, SumsIn}
use Rattle.saftvrmie_dispersion.specs.Chain.{KIn, LinkIn}
use Rattle.saftvrmie_dispersion.proofs.Relation.{Pairs, Fluids, Bars, AllSums, Ks, Links, k_hs_rel, fluid_of_rel, bar_of_rel, add_pure_rel, add_pair_rel, orders_sum_rel, fluid_dual_rel, terms_of_rel, k_of_rel, chain_pure_rel}
use Rattle.mie_parameters.specs.Places.{in_places}
use Rattle.mie_parameters.specs.Sums.{weighted}
use Rattle.number.specs.Lists.{nth}
use Rattle.saftvrmie_energies.specs.Properties.{PropertiesIn, total, xs_of, d_ij, d3_ij, s3_ij, zeta_turn, zeta_row, zeta_sum, after_lower, properties}
use Rattle.saftvrmie_energies.specs.Dispersion.{StateIn, no_sums, pair_turn, pair_row, disp_row, chain_row, disp_rows, chain_rows, dispersion, dispersion_chain}
use Rattle.saftvrmie_energies.specs.Energies.{state_in, energy_run}

module _ {S T : Type 0} (R : S → T → Type 0) where
  pub record AllProperties (x : PropertiesIn S) (u : PropertiesIn T) : Type 0 where
    pub segment_density : R x.segment_density u.segment_density
    pub zeta_x : R x.zeta_x u.zeta_x
    pub zeta_x_bar : R x.zeta_x_bar u.zeta_x_bar
    pub k : Ks R x.k u.k

  pub record States (x : StateIn S) (u : StateIn T) : Type 0 where
    pub temperature : R x.temperature u.temperature
    pub fraction : (i : ℕ) → R (x.fraction i) (u.fraction i)
    pub density : (i : ℕ) → R (x.density i) (u.density i)
    pub diameter : (i : ℕ) → R (x.diameter i) (u.diameter i)
    pub m : (i : ℕ) → R (x.m i) (u.m i)
    pub pure : (i : ℕ) → Pairs R (x.pure i) (u.pure i)
    pub pair : (i j : ℕ) → Pairs R (x.pair i j) (u.pair i j)

-- ---- lists, entry by entry
data All {S T : Type 0} (R : S → T → Type 0) : List S → List T → Type 0 where
  none : All R [] []
  more : {x : S} {u : T} {l : List S} {k : List T} → R x u → All R l k → All R (x ∷ l) (u ∷ k)

module _ {S T : Type 0} (R : S → T → Type 0) where
  nth_rel : {x : S} {u : T} → R x u → (l : List S) (k : List T) → All R l k → (i : ℕ) → R (get_or l i x) (get_or k i u)
  nth_rel d [] (u ∷ k) x3 i = elim x3 [ ]
  nth_rel {u = u} d (x ∷ l) [] x5 i = elim x5 [ ]
  nth_rel d [] [] none i = d
  nth_rel d (x ∷ l) (u ∷ k) (more p q) zero = p
  nth_rel d (x ∷ l) (u ∷ k) (more p q) (suc i) = nth_rel d l k q i

  set_rel : (l : List S) (k : List T) (i : ℕ) (y : S) (v : T) → All R l k → R y v → All R (set l i y) (set k i v)
  set_rel [] (u ∷ k) i y v x4 r = elim x4 [ ]
  set_rel (x ∷ l) [] i y v x5 r = elim x5 [ ]
  set_rel [] [] i y v none r = none
  set_rel (x ∷ l) (u ∷ k) zero y v (more p q) r = more r q
  set_rel (x ∷ l) (u ∷ k) (suc i) y v (more p q) r = more p (set_rel l k i y v q r)

  replicate_rel : (n : ℕ) (x : S) (u : T) → R x u → All R (replicate n x) (replicate n u)
  replicate_rel zero x u p = none
  replicate_rel (suc n) x u p = more p (replicate_rel n x u p)

module _ (A B : Arith) (K : Rel A B) where
  open K use {R, r_add, r_mul, r_div, r_pow, r_lit, r_after}

  -- functions of the index whose values are related
  abbrev Each : (ℕ → A.Num) → (ℕ → B.Num) → Type 0
  Each f g = (i : ℕ) → R (f i) (g i)

  abbrev Both² : (ℕ → ℕ → A.Num) → (ℕ → ℕ → B.Num) → Type 0
  Both² f g = (i j : ℕ) → R (f i j) (g i j)

  total_rel : (n : ℕ) (f : ℕ → A.Num) (g : ℕ → B.Num) → Each f g → R (total A n f) (total B n g)
  unfolding total
  total_rel n f g h = turns_rel R n _ _ (λ i _ _ p. r_add p (h i)) (r_lit _)

  pub weighted_rel : (n : ℕ) (f m : ℕ → A.Num) (g k : ℕ → B.Num) → Each f g → Each m k → R (weighted A n f m) (weighted B n g k)
  unfolding weighted
  weighted_rel n f m g k h q = turns_rel R n _ _ (λ i _ _ p. r_add p (r_mul (h i) (q i))) (r_lit _)

  pub xs_of_rel : (n : ℕ) (x m : ℕ → A.Num) (u k : ℕ → B.Num) (a : A.Num) (b : B.Num) → Each x u → Each m k → R a b → Each (nth A (xs_of A n x m a)) (nth B (xs_of B n u k b))
  unfolding xs_of in_places
  xs_of_rel n x m u k a b h q p i =
      nth_rel R (r_lit nan) _ _ (turns_rel (All R) n _ _ (λ j l l' t. set_rel R l l' j _ _ t (r_div (r_mul (h j) (q j)) p)) (replicate_rel R side _ _ (r_lit zero64))) i

  d_ij_rel : (f : ℕ → A.Num) (g : ℕ → B.Num) → Each f g → Both² (d_ij A f) (d_ij B g)
  unfolding d_ij
  d_ij_rel f g h i j = r_mul (r_add (h i) (h j)) (r_lit _)

  d3_ij_rel : (f : ℕ → A.Num) (g : ℕ → B.Num) → Each f g → Both² (d3_ij A f) (d3_ij B g)
  unfolding d3_ij
  d3_ij_rel f g h i j = r_pow 3 (d_ij_rel f g h i j)

  s3_ij_rel : (f : ℕ → ℕ → PairIn A.Num) (g : ℕ → ℕ → PairIn B.Num) → ((i j : ℕ) → Pairs R (f i j) (g i j)) → Both² (s3_ij A f) (s3_ij B g)
  unfolding s3_ij
  s3_ij_rel f g h i j = r_pow 3 (h i j).sigma

  zeta_sum_rel : (n : ℕ) (x : ℕ → A.Num) (u : ℕ → B.Num) (c : ℕ → ℕ → A.Num) (e : ℕ → ℕ → B.Num) → Each x u → Both² c e → R (zeta_sum A n x c) (zeta_sum B n u e)
  unfolding zeta_sum zeta_row zeta_turn
  zeta_sum_rel n x u c e h q =
      turns_rel R n _ _ (λ i _ _ p. turns_rel R _ _ _ (λ k _ _ s. r_add s (r_mul (r_mul (r_mul (h i) (h (i + 1 + k))) (q i (i + 1 + k))) (r_lit _))) (r_add p (r_mul (r_pow 2 (h i)) (q i i)))) (r_lit _)

  after_lower_rel : (n : ℕ) (c : ℕ → ℕ → A.Num) (e : ℕ → ℕ → B.Num) (x : A.Num) (u : B.Num) → Both² c e → R x u → R (after_lower A n c x) (after_lower B n e u)
  unfolding after_lower
  after_lower_rel n c e x u q p = turns_rel R n _ _ (λ i _ _ s. turns_rel R i _ _ (λ j _ _ t. r_after (q i j) t) s) p

  module _ (F : Functions A.Num) (G : Functions B.Num) (H : FunRel R F G) where
    open H use {r_frac_pi_6}

    pub properties_rel : (n : ℕ) (x rho d m : ℕ → A.Num) (x' rho' d' m' : ℕ → B.Num) (p : ℕ → ℕ → PairIn A.Num) (p' : ℕ → ℕ → PairIn B.Num)
        → Each x x' → Each rho rho' → Each d d' → Each m m' → ((i j : ℕ) → Pairs R (p i j) (p' i j)) → Both (AllProperties R) (properties A F n x rho d m p) (properties B G n x' rho' d' m' p')
    unfolding properties
    properties_rel n x rho d m x' rho' d' m' p p' hx hr hd hm hp =
        let seg = weighted_rel n rho m rho' m' hr hm in
        let zeta = after_lower_rel n _ _ _ _ (d3_ij_rel d d' hd) (r_mul (zeta_sum_rel n _ _ _ _ hx (d3_ij_rel d d' hd)) (r_mul seg r_frac_pi_6)) in
        let bar = r_mul (zeta_sum_rel n _ _ _ _ hx (s3_ij_rel p p' hp)) (r_mul seg r_frac_pi_6) in
        then_both (k_of_rel A B K F G H zeta) (λ _ _ k. both_held (record { segment_density = seg; zeta_x = zeta; zeta_x_bar = bar; k = k }))

    no_sums_rel : AllSums R (no_sums A F) (no_sums B G)
    no_sums_rel = record { a1 = r_lit _; a2 = r_lit _; a3 = r_lit _; a_chain = r_lit _ }

    module _ (n : ℕ) (x d : ℕ → A.Num) (x' d' : ℕ → B.Num) (p : ℕ → ℕ → PairIn A.Num) (p' : ℕ → ℕ → PairIn B.Num) (w : FluidIn A.Num) (w' : FluidIn B.Num)
        (b : BarIn A.Num) (b' : BarIn B.Num) (hx : Each x x') (hd : Each d d') (hp : (i j : ℕ) → Pairs R (p i j) (p' i j)) (hw : Fluids R w w') (hb : Bars R b b') where
      pair_row_rel : (i : ℕ) (s : SumsIn A.Num) (t : SumsIn B.Num) → AllSums R s t → Both (AllSums R) (pair_row A F n x d p w b i s) (pair_row B G n x' d' p' w' b' i t)
      unfolding pair_row pair_turn
      pair_row_rel i s t q =
          walk_rel (AllSums R) _ _ _ (λ k _ _ r. then_both (terms_of_rel A B K F G H hw hb (hp i (i + 1 + k)) (d_ij_rel d d' hd i (i + 1 + k))) (λ _ _ e. both_held (add_pair_rel A B K (hx i) (hx (i + 1 + k)) e r))) q

      module _ (u : ℕ → PairIn A.Num) (u' : ℕ → PairIn B.Num) (hu : (i : ℕ) → Pairs R (u i) (u' i)) where
        disp_rows_rel : Both (AllSums R) (disp_rows A F n x d p w b u) (disp_rows B G n x' d' p' w' b' u')
        unfolding disp_rows disp_row
        disp_rows_rel =
            walk_rel (AllSums R) n _ _ (λ i _ _ s. then_both (terms_of_rel A B K F G H hw hb (hu i) (hd i)) (λ _ _ e. pair_row_rel i _ _ (add_pure_rel A B K (hx i) e s))) no_sums_rel

        chain_rows_rel : (v : FluidIn (DualOf A.Num)) (v' : FluidIn (DualOf B.Num)) (k : KIn A.Num) (k' : KIn B.Num) (l : ℕ → LinkIn A.Num) (l' : ℕ → LinkIn B.Num)
            → Fluids (Duals R) v v' → Ks R k k' → ((i : ℕ) → Links R (l i) (l' i)) → Both (AllSums R) (chain_rows A F n x d p w b u v k l) (chain_rows B G n x' d' p' w' b' u' v' k' l')
        unfolding chain_rows chain_row
        chain_rows_rel v v' k k' l l' hv hk hl =
            walk_rel (AllSums R) n _ _ (λ i _ _ s. then_both (chain_pure_rel A B K F G H hv hb hk (hu i) (hd i) (hl i) (hx i) s) (λ _ _ e. pair_row_rel i _ _ e)) no_sums_rel

    module _ (n : ℕ) (s : StateIn A.Num) (t : StateIn B.Num) (h : States R s t) where
      pub dispersion_rel : Both R (dispersion A F n s) (dispersion B G n t)
      unfolding dispersion
      dispersion_rel =
          let mean = weighted_rel n _ _ _ _ h.fraction h.m in
          let xs = xs_of_rel n _ _ _ _ _ _ h.fraction h.m mean in
          then_both (properties_rel n _ _ _ _ _ _ _ _ _ _ xs h.density h.diameter h.m h.pair) (λ _ _ q.
          let w = fluid_of_rel A B K q.segment_density q.zeta_x (k_hs_rel A B K q.zeta_x) in
          then_both (disp_rows_rel n _ _ _ _ _ _ _ _ _ _ xs h.diameter h.pair w (bar_of_rel A B K q.zeta_x_bar) _ _ h.pure) (λ _ _ a.
          both_held (r_after q.k.k0 (r_after q.k.k1 (r_after q.k.k2 (r_after q.k.k3
          (r_mul (r_mul (total_rel n _ _ h.density) mean) (orders_sum_rel A B K a (r_div (r_lit _) h.temperature)))))))))

      pub dispersion_chain_rel : Both R (dispersion_chain A F n s) (dispersion_chain B G n t)
      unfolding dispersion_chain
      dispersion_chain_rel =
          let mean = weighted_rel n _ _ _ _ h.fraction h.m in
          let xs = xs_of_rel n _ _ _ _ _ _ h.fraction h.m mean in
          then_both (properties_rel n _ _ _ _ _ _ _ _ _ _ xs h.density h.diameter h.m h.pair) (λ _ _ q.
          let v = fluid_dual_rel A B K q.zeta_x q.segment_density in
          let w = fluid_of_rel A B K q.segment_density q.zeta_x v.k_hs.re in
          let it = r_div (r_lit _) h.temperature in
          then_both
          (chain_rows_rel n _ _ _ _ _ _ _ _ _ _ xs h.diameter h.pair w (bar_of_rel A B K q.zeta_x_bar) _ _ h.pure _ _ _ _ _ _ v q.k (λ i. record { m = h.m i; fraction = h.fraction i; t_inv = it }))
          (λ _ _ a. both_held (r_mul (total_rel n _ _ h.density) (r_add (r_mul mean (orders_sum_rel A B K a it)) a.a_chain))))

    -- every input enters by the run's lit
    pair_rel : (p : PairParameters) → Pairs R (pair_in A.lit p) (pair_in B.lit p)
    pair_rel p = record { sigma = r_lit _; epsilon_k = r_lit _; lr = r_lit _; la = r_lit _; c = r_lit _; alpha = r_lit _ }

    pub state_rel : (s : SaftVRMiePars) (t : Float) (x rho d : List Float) → States R (state_in A.lit s t x rho d) (state_in B.lit s t x rho d)
    state_rel s t x rho d =
        record {
          temperature = r_lit _;
          fraction = λ i. r_lit _;
          density = λ i. r_lit _;
          diameter = λ i. r_lit _;
          m = λ i. r_lit _;
          pure = λ i. pair_rel _;
          pair = λ i j. pair_rel _;
        }

    pub energy_run_rel : (s : SaftVRMiePars) (t : Float) (x rho d : List Float) (chain : Bool) → Both R (energy_run A F s t x rho d chain) (energy_run B G s t x rho d chain)
    unfolding energy_run
    energy_run_rel s t x rho d chain =
        let h = state_rel s t x rho d in
        cond_rel (Both R) chain chain refl (dispersion_chain_rel s.count _ _ h) (dispersion_rel s.count _ _ h)
