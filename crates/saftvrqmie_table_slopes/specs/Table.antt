-- The temperature table with slopes: `TemperatureDependentProperties::new` of saftvrqmie/eos/mod.rs at D on a set, row by row (document 02, Slip 1).
use Rattle.std.specs.Prelude.{ℕ, ◌*◌, Float, replicate, List, [], Bool, ◌&&◌}
use Rattle.number.specs.Ans.{Ans, held, ◌>>=◌, demand}
use Rattle.number.specs.Arith.{zero64}
use Rattle.number.specs.Functions.{Answers}
use Rattle.number.specs.Walk.{walk}
use Rattle.sizes.specs.Sizes.{sheet, cell}
use Rattle.dual.specs.Dual.{DualOf}
use Rattle.dual.specs.Value.{dual_of}
use Rattle.dual.specs.declared.Dual.{Dual}
use Rattle.slopes_lists.specs.Lists.{SlopedList}
use Rattle.saftvrqmie_parameters.specs.declared.OrderRecord.{OrderRecord}
use Rattle.saftvrqmie_potential.specs.declared.Pair.{Pair}
use Rattle.saftvrqmie_potential.specs.Potential.{pair_at_entry}
use Rattle.saftvrqmie.specs.Table.{store, table_finite}
use Rattle.saftvrqmie_properties.specs.Properties.{PairPropertiesIn}
use Rattle.saftvrqmie_properties.specs.Slopes.{properties_slope}
use Rattle.saftvrqmie_table_slopes.specs.declared.SlopedTable.{SlopedTable}

-- of a pair's properties the values alone, or the slopes alone
abbrev pub parts_of : (DualOf Float → Float) → PairPropertiesIn (DualOf Float) → PairPropertiesIn Float
parts_of f p =
    record {
      sigma_eff = f p.sigma_eff;
      hs_diameter = f p.hs_diameter;
      epsilon_k_eff = f p.epsilon_k_eff;
      quantum_d = f p.quantum_d;
      sigma_count = p.sigma_count;
      zero_count = p.zero_count;
      depth_count = p.depth_count;
    }

-- into the sheets that the table without slopes has; the counts are not kept
abbrev pub store_part : List Float → ℕ → PairPropertiesIn Float → List Float
store_part l e p = (store (record { values = l; numbers = [] }) e p).values

unfoldable pub store_slopes : SlopedList → ℕ → PairPropertiesIn (DualOf Float) → SlopedList
store_slopes x e p = record { values = store_part x.values e (parts_of (λ d. d.re) p); slopes = store_part x.slopes e (parts_of (λ d. d.eps) p) }

-- the properties of a pair at its temperature
abbrev pub properties_at : Answers → Pair Dual Float → Ans (PairPropertiesIn (DualOf Float))
properties_at E p = properties_slope E (record { sigma = p.sigma; epsilon_k = p.epsilon_k; c = p.c; lr = p.lr; la = p.la; mass = p.mass; order = p.order; temperature = (dual_of p.temperature).re }) (dual_of p.temperature)

-- a table's two lists
abbrev pub sloped_of : SlopedTable → SlopedList
sloped_of t = record { values = t.values; slopes = t.slopes }

module _ (E : Answers) (s : List Float) (orders : List OrderRecord) (t : DualOf Float) where
  -- pair (i, j), row i, and all ordered pairs row by row
  unfoldable pub slopes_turn : ℕ → ℕ → SlopedList → Ans SlopedList
  slopes_turn i j x = properties_slope E (pair_at_entry s orders t.re (cell i j)) t >>= λ p. held (store_slopes x (cell i j) p)

  unfoldable pub slopes_row : ℕ → ℕ → SlopedList → Ans SlopedList
  slopes_row n i x = walk n (slopes_turn i) x

  unfoldable pub slopes_pairs : ℕ → SlopedList → Ans SlopedList
  slopes_pairs n x = walk n (slopes_row n) x

-- unused places are +0, so that all can be tested: values and slopes
unfoldable pub slopes_finite : SlopedList → Bool
slopes_finite x = table_finite x.values && table_finite x.slopes

-- the table's 6 and 7, where the slopes' own powers and resulting slopes count too; into lists
unfoldable pub table_slopes_into : Answers → ℕ → List Float → List OrderRecord → DualOf Float → SlopedList → Ans SlopedList
table_slopes_into E n s orders t x =
    slopes_pairs E s orders t n x >>= λ w.
    demand 7 (slopes_finite w) >>= λ _.
    held w

abbrev pub blank : SlopedList
blank = record { values = replicate (4 * sheet) zero64; slopes = replicate (4 * sheet) zero64 }

-- of a count, a set's sheets and orders, and a temperature
abbrev pub table_slopes : Answers → ℕ → List Float → List OrderRecord → DualOf Float → Ans SlopedList
table_slopes E n s orders t = table_slopes_into E n s orders t blank
