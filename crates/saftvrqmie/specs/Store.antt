-- A walk over all ordered pairs of a set, row by row: the properties of each, stored as a run stores them.
use Rattle.std.specs.Prelude.{ℕ}
use Rattle.number.specs.Ans.{Ans, held, ◌>>=◌}
use Rattle.number.specs.Walk.{walk}
use Rattle.sizes.specs.Sizes.{cell}
use Rattle.saftvrqmie_properties.specs.Properties.{PairPropertiesIn}

-- what a run reads of its numbers, the lists that it fills, and where in them a pair's properties are
pub record Kept : Type 1 where
  pub Num : Type 0
  pub Lists : Type 0
  pub stored : Lists → ℕ → PairPropertiesIn Num → Lists

-- pair (i, j), row i, and all pairs, by the properties of the pair at an entry
module _ (K : Kept) (properties : ℕ → Ans (PairPropertiesIn K.Num)) where
  abbrev pub pair_stored : ℕ → ℕ → K.Lists → Ans K.Lists
  pair_stored i j x = properties (cell i j) >>= λ p. held (K.stored x (cell i j) p)

  abbrev pub row_stored : ℕ → ℕ → K.Lists → Ans K.Lists
  row_stored n i x = walk n (pair_stored i) x

  abbrev pub pairs_stored : ℕ → K.Lists → Ans K.Lists
  pairs_stored n x = walk n (row_stored n) x
