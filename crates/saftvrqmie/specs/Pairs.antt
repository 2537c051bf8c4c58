-- Operations on one pair of a quantum set: its three searches, and its diameter from searched radii.
use Rattle.std.specs.Prelude.{ℕ, Float, Result}
use Rattle.number.specs.declared.refusal.Refusal.{Refusal}
use Rattle.number.specs.Answer.{answer_by}
use Rattle.std.specs.Float.Ieee.Scale.{finite}
use Rattle.number.specs.Ans.{Ans, held, ◌>>=◌, demand}
use Rattle.number.specs.Arith.{Arith, floats}
use Rattle.number.specs.Functions.{Functions, Answers, calls}
use Rattle.sizes.specs.Sizes.{cell}
use Rattle.elementary.specs.Port.{port}
use Rattle.limits.specs.Limits.{index_within, temperature_within}
use Rattle.saftvrqmie_parameters.specs.declared.SaftVRQMiePars.{SaftVRQMiePars}
use Rattle.saftvrqmie_potential.specs.Potential.{PairIn, points_of, pair_in, pair_at_entry}
use Rattle.saftvrqmie_searches.specs.Searches.{Counted, search_in, sigma_eff, zero_integrand, epsilon_k_eff}
use Rattle.saftvrqmie_searches.specs.Diameter.{diameter}
use Rattle.saftvrqmie_properties.specs.Properties.{radius_of}
use Rattle.saftvrqmie.specs.declared.PairSearches.{PairSearches}

-- found or spent, each with its radius and last potential, and its count
pub record SearchesIn (N : Type 0) : Type 0 where
  pub sigma : Counted N
  pub zero : Counted N
  pub depth : Counted N

abbrev pub searches_in : PairSearches → SearchesIn Float
searches_in p =
    record {
      sigma = record { search = search_in p.sigma; count = p.sigma_count };
      zero = record { search = search_in p.zero; count = p.zero_count };
      depth = record { search = search_in p.depth; count = p.depth_count };
    }

abbrev pub searches_answer : Result PairSearches Refusal → Ans (SearchesIn Float)
searches_answer = answer_by searches_in

-- the zero search starts from the radius of the sigma search
unfoldable pub pair_searches : (A : Arith) → Functions A.Num → PairIn A.Num → Ans (SearchesIn A.Num)
pair_searches A F p =
    sigma_eff A F p >>= λ s.
    zero_integrand A F p (radius_of s.search) >>= λ z.
    epsilon_k_eff A F p >>= λ d.
    held (record { sigma = s; zero = z; depth = d })

-- 1; 2 for the temperature; 6
unfoldable pub radii_ij : SaftVRQMiePars → ℕ → ℕ → Float → Ans (SearchesIn Float)
radii_ij s i j t =
    demand 1 (index_within s.count i j) >>= λ _.
    demand 2 (temperature_within t) >>= λ _.
    pair_searches floats (calls floats port) (pair_in (pair_at_entry s.sheets s.orders t (cell i j)))

-- a run of the diameter from searched radii: the set's numbers, the temperature and both radii are read as they are
abbrev pub diameter_run : (A : Arith) → Functions A.Num → SaftVRQMiePars → ℕ → ℕ → Float → Float → Float → Ans A.Num
diameter_run A F s i j t sigma_eff r0 = diameter A F (points_of A (pair_at_entry s.sheets s.orders t (cell i j))) (A.lit sigma_eff) (A.lit r0)

-- 1; 2 for the temperature; 6; 7 if the diameter is not finite, of any float run
abbrev pub diameter_ij_from : SaftVRQMiePars → ℕ → ℕ → Float → Ans Float → Ans Float
diameter_ij_from s i j t run =
    demand 1 (index_within s.count i j) >>= λ _.
    demand 2 (temperature_within t) >>= λ _.
    run >>= λ d.
    demand 7 (finite d) >>= λ _.
    held d

-- whatever the elementary functions answer
unfoldable pub diameter_ij_by : Answers → SaftVRQMiePars → ℕ → ℕ → Float → Float → Float → Ans Float
diameter_ij_by E s i j t sigma_eff r0 = diameter_ij_from s i j t (diameter_run floats (calls floats E) s i j t sigma_eff r0)

abbrev pub diameter_ij : SaftVRQMiePars → ℕ → ℕ → Float → Float → Float → Ans Float
diameter_ij = diameter_ij_by port
