-- A pair's properties keep any relation that the operations and the elementary functions keep. Assumes nothing.
use mathlib.Core.Path.{◌≡◌}
use Rattle.number.specs.Arith.{Arith}
use Rattle.number.specs.Functions.{Functions}
use Rattle.number.proofs.Rel.{Rel, FunRel, Both, both_held, then_both}
use Rattle.saftvrqmie_potential.specs.Potential.{PairIn}
use Rattle.saftvrqmie_potential.proofs.Relation.{PairR, quantum_d_rel}
use Rattle.saftvrqmie_searches.specs.Searches.{SearchIn, sigma_eff, zero_integrand, epsilon_k_eff}
use Rattle.saftvrqmie_searches.specs.Diameter.{diameter}
use Rattle.saftvrqmie_searches.proofs.Relation.{SearchR, found_both, spent_both, sigma_eff_rel, zero_integrand_rel, epsilon_k_eff_rel, diameter_rel}
use Rattle.saftvrqmie_properties.specs.Properties.{PairPropertiesIn, radius_of, last_of, properties_by, pair_properties}

-- part by part; the counts are one
pub record PropertiesR {S T : Type 0} (R : S → T → Type 0) (p : PairPropertiesIn S) (q : PairPropertiesIn T) : Type 0 where
  pub sigma_eff : R p.sigma_eff q.sigma_eff
  pub hs_diameter : R p.hs_diameter q.hs_diameter
  pub epsilon_k_eff : R p.epsilon_k_eff q.epsilon_k_eff
  pub quantum_d : R p.quantum_d q.quantum_d
  pub sigma_count : p.sigma_count ≡ q.sigma_count
  pub zero_count : p.zero_count ≡ q.zero_count
  pub depth_count : p.depth_count ≡ q.depth_count

pub radius_rel : {S T : Type 0} (R : S → T → Type 0) {s : SearchIn S} {t : SearchIn T} → SearchR R s t → R (radius_of s) (radius_of t)
radius_rel R (found_both p q) = p
radius_rel R (spent_both p q) = p

pub last_rel : {S T : Type 0} (R : S → T → Type 0) {s : SearchIn S} {t : SearchIn T} → SearchR R s t → R (last_of s) (last_of t)
last_rel R (found_both p q) = q
last_rel R (spent_both p q) = q

module _ (A B : Arith) (K : Rel A B) (F : Functions A.Num) (G : Functions B.Num) (H : FunRel K.R F G) {p : PairIn A.Num} {q : PairIn B.Num} (P : PairR K.R p q) where
  pub pair_properties_rel : Both (PropertiesR K.R) (pair_properties A F p) (pair_properties B G q)
  unfolding pair_properties properties_by sigma_eff zero_integrand epsilon_k_eff diameter
  pair_properties_rel =
      then_both (sigma_eff_rel A B K F G H P) (λ _ _ s.
      let sigma = radius_rel K.R s.search in
      then_both (zero_integrand_rel A B K F G H P sigma) (λ _ _ z.
      then_both (diameter_rel A B K F G H P sigma (radius_rel K.R z.search)) (λ _ _ d.
      then_both (epsilon_k_eff_rel A B K F G H P) (λ _ _ e.
      both_held
      (record {
        sigma_eff = sigma;
        hs_diameter = d;
        epsilon_k_eff = K.r_neg (K.r_after (radius_rel K.R e.search) (last_rel K.R e.search));
        quantum_d = quantum_d_rel A B K F G H P.mass P.temperature;
        sigma_count = s.count;
        zero_count = z.count;
        depth_count = e.count;
      })))))
