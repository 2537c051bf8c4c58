-- 'Values must be bit for bit those of the chain without slopes' (document 02, Slip 1), whatever the elementary functions answer: where a run with slopes holds, the float run holds, with its values. The slopes' own powers may refuse where floats hold, so nothing is said of a run with slopes that refuses.
use Rattle.std.specs.Prelude.{ℕ, Float, Bool, ◌≡◌}
use Rattle.number.specs.Ans.{held}
use Rattle.number.specs.Arith.{floats}
use Rattle.number.specs.Functions.{Answers, calls}
use Rattle.dual.specs.Dual.{DualOf, duals}
use Rattle.slopes.specs.Mixed.{Mixed, value_of, mixed}
use Rattle.slopes.specs.Rules.{mixed_functions, dual_functions}
use Rattle.saftvrqmie_potential.specs.Potential.{PairIn, PotentialIn, FloatPair, potential}
use Rattle.saftvrqmie_potential.specs.Slopes.{potential_slope}
use Rattle.saftvrqmie_searches.specs.Searches.{SearchIn, Counted, found, spent, sigma_search, zero_search, depth_search}
use Rattle.saftvrqmie_properties.specs.Properties.{PairPropertiesIn, pair_properties}
use Rattle.saftvrqmie_properties.specs.Slopes.{properties_slope}
use Rattle.saftvrqmie_dispersion_sums.specs.State.{SheetsIn}
use Rattle.saftvrqmie_energies.specs.Energies.{EnergiesIn, contributions}

-- the values alone
abbrev pub potential_values : PotentialIn (DualOf Float) → PotentialIn Float
potential_values v = record { u = v.u.re; u_r = v.u_r.re; u_rr = v.u_rr.re }

abbrev pub properties_values : PairPropertiesIn (DualOf Float) → PairPropertiesIn Float
properties_values v =
    record {
      sigma_eff = v.sigma_eff.re;
      hs_diameter = v.hs_diameter.re;
      epsilon_k_eff = v.epsilon_k_eff.re;
      quantum_d = v.quantum_d.re;
      sigma_count = v.sigma_count;
      zero_count = v.zero_count;
      depth_count = v.depth_count;
    }

abbrev pub search_values : SearchIn (DualOf Float) → SearchIn Float
search_values (found r u) = found r.re u.re
search_values (spent r u) = spent r.re u.re

abbrev pub counted_values : Counted (DualOf Float) → Counted Float
counted_values c = record { search = search_values c.search; count = c.count }

abbrev pub energies_values : EnergiesIn Mixed → EnergiesIn Float
energies_values e = record { hard_sphere = value_of e.hard_sphere; dispersion = value_of e.dispersion; non_additive = value_of e.non_additive }

abbrev pub pair_values : PairIn Mixed → PairIn Float
pair_values p =
    record {
      sigma = value_of p.sigma;
      epsilon_k = value_of p.epsilon_k;
      c = value_of p.c;
      lr = value_of p.lr;
      la = value_of p.la;
      mass = value_of p.mass;
      order = p.order;
      temperature = value_of p.temperature;
    }

abbrev pub sheets_values : SheetsIn Mixed → SheetsIn Float
sheets_values s =
    record {
      count = s.count;
      pair = λ e. pair_values (s.pair e);
      sigma_eff = λ e. value_of (s.sigma_eff e);
      hs_diameter = λ e. value_of (s.hs_diameter e);
      epsilon_k_eff = λ e. value_of (s.epsilon_k_eff e);
      quantum_d = λ e. value_of (s.quantum_d e);
    }

-- a pair at the value of a temperature
abbrev pub pair_at : FloatPair → DualOf Float → PairIn Float
pair_at p t = record { sigma = p.sigma; epsilon_k = p.epsilon_k; c = p.c; lr = p.lr; la = p.la; mass = p.mass; order = p.order; temperature = t.re }

-- the potential, the searches, a pair's properties (the entries of the table, with the counts of the searches) and the contributions
pub record ValuesKept : Type 0 where
  pub potential_kept : (E : Answers) (p : FloatPair) (t r : DualOf Float) (v : PotentialIn (DualOf Float)) → potential_slope E p t r ≡ held v → potential floats (calls floats E) (pair_at p t) r.re ≡ held (potential_values v)
  pub sigma_kept : (E : Answers) (p : FloatPair) (t s : DualOf Float) (c : Counted (DualOf Float)) → sigma_search (duals floats) (potential_slope E p t) s ≡ held c → sigma_search floats (potential floats (calls floats E) (pair_at p t)) s.re ≡ held (counted_values c)
  pub zero_kept : (E : Answers) (p : FloatPair) (t s : DualOf Float) (c : Counted (DualOf Float)) → zero_search (duals floats) (potential_slope E p t) (dual_functions E) t s ≡ held c
      → zero_search floats (potential floats (calls floats E) (pair_at p t)) (calls floats E) t.re s.re ≡ held (counted_values c)
  pub depth_kept : (E : Answers) (p : FloatPair) (t s : DualOf Float) (c : Counted (DualOf Float)) → depth_search (duals floats) (potential_slope E p t) s ≡ held c → depth_search floats (potential floats (calls floats E) (pair_at p t)) s.re ≡ held (counted_values c)
  pub properties_kept : (E : Answers) (p : FloatPair) (t : DualOf Float) (v : PairPropertiesIn (DualOf Float)) → properties_slope E p t ≡ held v → pair_properties floats (calls floats E) (pair_at p t) ≡ held (properties_values v)
  pub contributions_kept : (E : Answers) (s : SheetsIn Mixed) (x rho m : ℕ → Mixed) (t : Mixed) (wanted : Bool) (e : EnergiesIn Mixed) → contributions mixed (mixed_functions E) s x rho m t wanted ≡ held e
      → contributions floats (calls floats E) (sheets_values s) (λ i. value_of (x i)) (λ i. value_of (rho i)) (λ i. value_of (m i)) (value_of t) wanted ≡ held (energies_values e)
