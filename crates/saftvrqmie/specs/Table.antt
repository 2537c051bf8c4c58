-- The temperature table, `TemperatureDependentProperties::new` of saftvrqmie/eos/mod.rs on a set: the tests in their order, and both lent lists.
use Rattle.std.specs.Prelude.{ℕ, ◌+◌, ◌*◌, eqb, Float, length, set, replicate, List, [], Bool, ◌&&◌}
use Rattle.std.specs.Float.Ieee.Scale.{finite}
use Rattle.number.specs.Ans.{Ans, held, ◌>>=◌, demand}
use Rattle.number.specs.Arith.{floats, zero64}
use Rattle.number.specs.Functions.{calls}
use Rattle.number.specs.Lists.{at}
use Rattle.sizes.specs.Sizes.{sheet, cell}
use Rattle.number.specs.Walk.{every, walk}
use Rattle.elementary.specs.Port.{port}
use Rattle.limits.specs.Limits.{count_within, temperature_within}
use Rattle.saftvrqmie_parameters.specs.declared.OrderRecord.{OrderRecord}
use Rattle.saftvrqmie_parameters.specs.declared.SaftVRQMiePars.{SaftVRQMiePars}
use Rattle.saftvrqmie_potential.specs.Potential.{pair_in, pair_at_entry}
use Rattle.saftvrqmie_properties.specs.Properties.{PairPropertiesIn, pair_properties}
use Rattle.saftvrqmie.specs.declared.Room.{Room}

-- the two lists: '256 floats, and 192 bytes of counts'
pub record Lent : Type 0 where
  pub values : List Float
  pub numbers : List ℕ

abbrev pub lent_of : Room → Lent
lent_of r = record { values = r.values; numbers = r.numbers }

-- 'sigma_eff, hs_diameter, epsilon_k_eff, quantum_d'; 'sheets for sigma, zero, depth'
unfoldable pub store : Lent → ℕ → PairPropertiesIn Float → Lent
store s e p =
    record {
      values = set (set (set (set s.values e p.sigma_eff) (1 * sheet + e) p.hs_diameter) (2 * sheet + e) p.epsilon_k_eff) (3 * sheet + e) p.quantum_d;
      numbers = set (set (set s.numbers e p.sigma_count) (1 * sheet + e) p.zero_count) (2 * sheet + e) p.depth_count;
    }

-- pair (i, j), row i, and all ordered pairs row by row
unfoldable pub work_turn : List Float → List OrderRecord → Float → ℕ → ℕ → Lent → Ans Lent
work_turn s orders t i j x = pair_properties floats (calls floats port) (pair_in (pair_at_entry s orders t (cell i j))) >>= λ p. held (store x (cell i j) p)

unfoldable pub work_row : ℕ → List Float → List OrderRecord → Float → ℕ → Lent → Ans Lent
work_row n s orders t i x = walk n (work_turn s orders t i) x

unfoldable pub work_pairs : ℕ → List Float → List OrderRecord → Float → Lent → Ans Lent
work_pairs n s orders t x = walk n (work_row n s orders t) x

-- 'Unused counts are 0', unused floats +0
abbrev pub blank : Lent
blank = record { values = replicate (4 * sheet) zero64; numbers = replicate (3 * sheet) 0 }

-- unused places are +0, so that all 256 can be tested
unfoldable pub table_finite : List Float → Bool
table_finite l = every (4 * sheet) (λ k. finite (at l k))

-- the count, and the length of each lent list
unfoldable pub right_lists : ℕ → ℕ → ℕ → Bool
right_lists n a b = count_within n && eqb a (4 * sheet) && eqb b (3 * sheet)

-- '1 for the count or a list length; 2 for the temperature; 6; 7 if a value to be written is not finite'
unfoldable pub temperature_table : SaftVRQMiePars → Float → Lent → Ans Lent
temperature_table s t l =
    demand 1 (right_lists s.count (length l.values) (length l.numbers)) >>= λ _.
    demand 2 (temperature_within t) >>= λ _.
    work_pairs s.count s.sheets s.orders t blank >>= λ w.
    demand 7 (table_finite w.values) >>= λ _.
    held w

-- a set by what the table reads of it
abbrev pub pairs_of : ℕ → List Float → List OrderRecord → SaftVRQMiePars
pairs_of n sheets orders = record { count = n; m = []; sheets = sheets; orders = orders }
