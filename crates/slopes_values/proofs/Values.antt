-- 'Values must be bit for bit those of the chain without slopes': the potential, a pair's properties and the contributions. Assumes nothing.
use Prim.Native.Nat.{ℕ}
use lib.Ieee.{Float}
use mathlib.Core.Path.{◌≡◌, refl}
use mathlib.Core.Bool.{Bool}
use Rattle.number.specs.Ans.{Ans, held}
use Rattle.number.specs.Arith.{floats}
use Rattle.number.specs.Functions.{Answers, calls}
use Rattle.dual.specs.Dual.{DualOf, plain_d, duals}
use Rattle.slopes.specs.Mixed.{Mixed, plain, sloped, as_dual, value_of, mixed, mixed_one}
use Rattle.slopes.specs.Rules.{mixed_functions, dual_functions}
use Rattle.saftvrqmie_potential.specs.Potential.{PotentialIn, FloatPair, potential}
use Rattle.saftvrqmie_potential.proofs.Relation.{PotentialR, potential_rel}
use Rattle.saftvrqmie_potential.specs.Slopes.{mixed_pair, as_duals, potential_slope}
use Rattle.saftvrqmie_searches.specs.Searches.{SearchIn, Counted, found, spent, sigma_search, zero_search, depth_search}
use Rattle.saftvrqmie_searches.proofs.Relation.{SearchR, found_both, spent_both, CountedR}
use Rattle.saftvrqmie_properties.specs.Properties.{PairPropertiesIn, pair_properties}
use Rattle.saftvrqmie_properties.specs.Slopes.{dual_pair, properties_slope}
use Rattle.saftvrqmie_dispersion_sums.specs.State.{SheetsIn}
use Rattle.saftvrqmie_energies.specs.Energies.{EnergiesIn, contributions}
use Rattle.saftvrqmie_energies.proofs.Relation.{EnergiesR, contributions_rel}
use Rattle.slopes_values.specs.Energies.{OneKept}
use Rattle.slopes_values.specs.Values.{potential_values, search_values, counted_values, properties_values, energies_values, sheets_values, pair_at, ValuesKept}
use Rattle.slopes_values.proofs.OneSided.{Kept, le_kept, map_kept, kept_gives}
use Rattle.slopes_values.proofs.Full.{Value, values, values_one, full, full_rel}
use Rattle.slopes_values.proofs.Fewer.{potential_le, contributions_le}
use Rattle.slopes_values.proofs.FewerOne.{contributions_le as one_le}
use Rattle.slopes_values.proofs.Searches.{R, plain_is, sigma_part, zero_part, depth_part, properties_part}

as_value : (x : Mixed) (u : Float) → Value x u → R (as_dual x) u
unfolding plain_d
as_value (plain x) u p = record { same = p }
as_value (sloped x) u p = record { same = p }

-- an answer is its parts
potential_is : (a : Ans (PotentialIn Float)) (w : PotentialIn Float) (u u_r u_rr : Float) → a ≡ held w → u ≡ w.u → u_r ≡ w.u_r → u_rr ≡ w.u_rr → a ≡ held (record { u = u; u_r = u_r; u_rr = u_rr })
potential_is a w u u_r u_rr e p q r = rw (p, q, r) e

found_is : (r u a b : Float) → a ≡ r → b ≡ u → found r u ≡ found a b
found_is r u a b p q = rw (p, q)

spent_is : (r u a b : Float) → a ≡ r → b ≡ u → spent r u ≡ spent a b
spent_is r u a b p q = rw (p, q)

search_is : {s : SearchIn (DualOf Float)} {w : SearchIn Float} → SearchR R s w → w ≡ search_values s
search_is (found_both p q) = found_is _ _ _ _ p.same q.same
search_is (spent_both p q) = spent_is _ _ _ _ p.same q.same

counted_is : (a : Ans (Counted Float)) (w : Counted Float) (s : SearchIn Float) (n : ℕ) → a ≡ held w → w.search ≡ s → n ≡ w.count → a ≡ held (record { search = s; count = n })
counted_is a w s n e p q = rw (← p, q) e

counted_kept : (a : Ans (Counted (DualOf Float))) (b : Ans (Counted Float)) (c : Counted (DualOf Float)) → Kept (CountedR R) a b → a ≡ held c → b ≡ held (counted_values c)
counted_kept a b c k e =
    let g = kept_gives a b c k e in
    counted_is b g.0 _ _ g.1 (search_is g.2.search) g.2.count

properties_are : (a : Ans (PairPropertiesIn Float)) (w : PairPropertiesIn Float) (s h d q : Float) (i j k : ℕ) → a ≡ held w → s ≡ w.sigma_eff → h ≡ w.hs_diameter → d ≡ w.epsilon_k_eff → q ≡ w.quantum_d → i ≡ w.sigma_count → j ≡ w.zero_count → k ≡ w.depth_count
    → a ≡ held (record { sigma_eff = s; hs_diameter = h; epsilon_k_eff = d; quantum_d = q; sigma_count = i; zero_count = j; depth_count = k })
properties_are a w s h d q i j k e p₁ p₂ p₃ p₄ p₅ p₆ p₇ = rw (p₁, p₂, p₃, p₄, p₅, p₆, p₇) e

module _ (E : Answers) (p : FloatPair) (t : DualOf Float) where
  potential_part : (x : DualOf Float) (u : Float) → R x u → Kept (PotentialR R) (potential_slope E p t x) (potential floats (calls floats E) (pair_at p t) u)
  unfolding potential_slope
  potential_part x u h =
      map_kept as_duals
      (le_kept _ _ (potential_le E (mixed_pair p t) (sloped x))
      (potential_rel mixed floats values (full E) (calls floats E) (full_rel E) {p = mixed_pair p t} {q = pair_at p t}
      (record { sigma = refl; epsilon_k = refl; c = refl; lr = refl; la = refl; mass = refl; order = refl; temperature = refl }) {r = sloped x} {r' = u} h.same))
      (λ v w r. record { u = as_value v.u _ r.u; u_r = as_value v.u_r _ r.u_r; u_rr = as_value v.u_rr _ r.u_rr })

  potential_kept : (r : DualOf Float) (v : PotentialIn (DualOf Float)) → potential_slope E p t r ≡ held v → potential floats (calls floats E) (pair_at p t) r.re ≡ held (potential_values v)
  potential_kept r v e =
      let g = kept_gives _ _ v (potential_part r r.re (record { same = refl })) e in
      let h = g.2 in
      potential_is _ _ _ _ _ g.1 h.u.same h.u_r.same h.u_rr.same

  abbrev U : DualOf Float → Ans (PotentialIn (DualOf Float))
  U = potential_slope E p t

  abbrev U' : Float → Ans (PotentialIn Float)
  U' = potential floats (calls floats E) (pair_at p t)

  module _ (s : DualOf Float) (c : Counted (DualOf Float)) where
    sigma_kept : sigma_search (duals floats) U s ≡ held c → sigma_search floats U' s.re ≡ held (counted_values c)
    sigma_kept e = counted_kept _ _ c (sigma_part U U' potential_part (record { same = refl })) e

    zero_kept : zero_search (duals floats) U (dual_functions E) t s ≡ held c → zero_search floats U' (calls floats E) t.re s.re ≡ held (counted_values c)
    zero_kept e = counted_kept _ _ c (zero_part U U' potential_part E (record { same = refl }) (record { same = refl })) e

    depth_kept : depth_search (duals floats) U s ≡ held c → depth_search floats U' s.re ≡ held (counted_values c)
    depth_kept e = counted_kept _ _ c (depth_part U U' potential_part (record { same = refl })) e

  properties_kept : (v : PairPropertiesIn (DualOf Float)) → properties_slope E p t ≡ held v → pair_properties floats (calls floats E) (pair_at p t) ≡ held (properties_values v)
  unfolding properties_slope pair_properties
  properties_kept v e =
      let g = kept_gives _ _ v (properties_part U U' potential_part E (dual_pair p t) (pair_at p t) (plain_is _) (plain_is _) (record { same = refl })) e in
      let h = g.2 in
      properties_are _ _ _ _ _ _ _ _ _ g.1 h.sigma_eff.same h.hs_diameter.same h.epsilon_k_eff.same h.quantum_d.same h.sigma_count h.zero_count h.depth_count

module _ (E : Answers) (s : SheetsIn Mixed) (x rho m : ℕ → Mixed) (t : Mixed) (wanted : Bool) where
  abbrev run : Ans (EnergiesIn Float)
  run = contributions floats (calls floats E) (sheets_values s) (λ i. value_of (x i)) (λ i. value_of (rho i)) (λ i. value_of (m i)) (value_of t) wanted

  contributions_part : Kept (EnergiesR Value) (contributions mixed (mixed_functions E) s x rho m t wanted) run
  contributions_part =
      le_kept _ _ (contributions_le E s x rho m t wanted)
      (contributions_rel mixed floats values (full E) (calls floats E) (full_rel E) {s = s} {s' = sheets_values s} s.count
      (record {
        pair = λ e. record { sigma = refl; epsilon_k = refl; c = refl; lr = refl; la = refl; mass = refl; order = refl; temperature = refl };
        sigma_eff = λ e. refl;
        hs_diameter = λ e. refl;
        epsilon_k_eff = λ e. refl;
        quantum_d = λ e. refl;
      })
      (λ i. refl) (λ i. refl) (λ i. refl) refl wanted)

  contributions_kept : (e : EnergiesIn Mixed) → contributions mixed (mixed_functions E) s x rho m t wanted ≡ held e → run ≡ held (energies_values e)
  contributions_kept e q =
      let g = kept_gives _ _ e contributions_part q in
      let h = g.2 in
      rw (h.hard_sphere, h.dispersion, h.non_additive) g.1

  -- the same in the arithmetic of the energies
  one_part : Kept (EnergiesR Value) (contributions mixed_one (mixed_functions E) s x rho m t wanted) run
  one_part =
      le_kept _ _ (one_le E s x rho m t wanted)
      (contributions_rel mixed_one floats values_one (full E) (calls floats E) (full_rel E) {s = s} {s' = sheets_values s} s.count
      (record {
        pair = λ e. record { sigma = refl; epsilon_k = refl; c = refl; lr = refl; la = refl; mass = refl; order = refl; temperature = refl };
        sigma_eff = λ e. refl;
        hs_diameter = λ e. refl;
        epsilon_k_eff = λ e. refl;
        quantum_d = λ e. refl;
      })
      (λ i. refl) (λ i. refl) (λ i. refl) refl wanted)

  one_kept : (e : EnergiesIn Mixed) → contributions mixed_one (mixed_functions E) s x rho m t wanted ≡ held e → run ≡ held (energies_values e)
  one_kept e q =
      let g = kept_gives _ _ e one_part q in
      let h = g.2 in
      rw (h.hard_sphere, h.dispersion, h.non_additive) g.1

pub values_kept : ValuesKept
values_kept =
    record {
      potential_kept = λ E p t r v e. potential_kept E p t r v e;
      sigma_kept = λ E p t s c e. sigma_kept E p t s c e;
      zero_kept = λ E p t s c e. zero_kept E p t s c e;
      depth_kept = λ E p t s c e. depth_kept E p t s c e;
      properties_kept = λ E p t v e. properties_kept E p t v e;
      contributions_kept = λ E s x rho m t wanted e q. contributions_kept E s x rho m t wanted e q;
    }

pub one_is_kept : OneKept
one_is_kept = record { contributions_one_kept = λ E s x rho m t wanted e q. one_kept E s x rho m t wanted e q }
