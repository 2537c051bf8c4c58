-- `TemperatureDependentProperties::new` of saftvrqmie/eos/mod.rs at one pair: sigma_eff, diameter, well depth and D, with the counts of the three searches.
use Rattle.std.specs.Prelude.{ℕ, Float, Result}
use Rattle.number.specs.declared.refusal.Refusal.{Refusal}
use Rattle.number.specs.Answer.{answer_by}
use Rattle.number.specs.Ans.{Ans, held, ◌>>=◌}
use Rattle.number.specs.Arith.{Arith, whole}
use Rattle.number.specs.Functions.{Functions}
use Rattle.saftvrqmie_potential.specs.Potential.{PairIn, PotentialIn, quantum_d, potential}
use Rattle.saftvrqmie_searches.specs.Searches.{SearchIn, found, spent, sigma_search, zero_search, depth_search}
use Rattle.saftvrqmie_searches.specs.Diameter.{diameter_by}
use Rattle.saftvrqmie_properties.specs.declared.PairProperties.{PairProperties}

pub record PairPropertiesIn (N : Type 0) : Type 0 where
  pub sigma_eff : N
  pub hs_diameter : N
  pub epsilon_k_eff : N
  pub quantum_d : N
  pub sigma_count : ℕ
  pub zero_count : ℕ
  pub depth_count : ℕ

-- those whose numbers are read by `of`
abbrev pub pair_properties_by : {D N : Type 0} → (D → N) → PairProperties D → PairPropertiesIn N
pair_properties_by of p =
    record {
      sigma_eff = of p.sigma_eff;
      hs_diameter = of p.hs_diameter;
      epsilon_k_eff = of p.epsilon_k_eff;
      quantum_d = of p.quantum_d;
      sigma_count = p.sigma_count;
      zero_count = p.zero_count;
      depth_count = p.depth_count;
    }

abbrev pub pair_properties_in : PairProperties Float → PairPropertiesIn Float
pair_properties_in = pair_properties_by (λ x. x)

abbrev pub pair_properties_answer : Result (PairProperties Float) Refusal → Ans (PairPropertiesIn Float)
pair_properties_answer = answer_by pair_properties_in

-- a search's radius is used whether it was found or spent, and so is its last potential; the radius stands `after` each potential, the last one not after the last step
abbrev pub radius_of : {N : Type 0} → SearchIn N → N
radius_of (found r u) = r
radius_of (spent r u) = r

abbrev pub last_of : {N : Type 0} → SearchIn N → N
last_of (found r u) = u
last_of (spent r u) = u

module _ (A : Arith) (F : Functions A.Num) where
  -- By the potential U, from the radius that two searches start from, the mass and the temperature. epsilon_k_eff is minus the last potential, `after` the radius, whose last step and derivatives are worked too.
  abbrev pub properties_from : (A.Num → Ans (PotentialIn A.Num)) → A.Num → A.Num → A.Num → Ans (PairPropertiesIn A.Num)
  properties_from U start mass temperature =
      sigma_search A U start >>= λ s.
      zero_search A U F temperature (radius_of s.search) >>= λ z.
      diameter_by A F U temperature (radius_of s.search) (radius_of z.search) >>= λ d.
      depth_search A U start >>= λ e.
      held
      (record {
        sigma_eff = radius_of s.search;
        hs_diameter = d;
        epsilon_k_eff = A.neg (A.after (radius_of e.search) (last_of e.search));
        quantum_d = quantum_d A F mass temperature;
        sigma_count = s.count;
        zero_count = z.count;
        depth_count = e.count;
      })

  module _ (p : PairIn A.Num) where
    -- by the potential U
    unfoldable pub properties_by : (A.Num → Ans (PotentialIn A.Num)) → Ans (PairPropertiesIn A.Num)
    properties_by U = properties_from U (A.mul (whole A 1) p.sigma) p.mass p.temperature

    unfoldable pub pair_properties : Ans (PairPropertiesIn A.Num)
    pair_properties = properties_by (potential A F p)
