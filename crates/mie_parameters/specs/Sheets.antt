-- The six sheets of a set, filled pair by pair, pairs row by row.
use Rattle.std.specs.Prelude.{ℕ, ◌+◌, ◌*◌, Float, set, replicate, List}
use Rattle.number.specs.Arith.{zero64}
use Rattle.number.specs.Ans.{Ans, held, ◌>>=◌}
use Rattle.number.specs.Lists.{at}
use Rattle.sizes.specs.Sizes.{sheet, cell}
use Rattle.number.specs.Walk.{walk}

-- six numbers at one entry, one a sheet
abbrev pub store_row : List Float → ℕ → List Float → List Float
store_row s e p =
    set (set (set (set (set (set s e (at p 0)) (1 * sheet + e) (at p 1)) (2 * sheet + e) (at p 2)) (3 * sheet + e) (at p 3)) (4 * sheet + e) (at p 4)) (5 * sheet + e) (at p 5)

-- from what stands at a pair, and its numbers in the order of the sheets
module _ {P : Type 0} (row : P → List Float) (n : ℕ) (pair : ℕ → ℕ → Ans P) where
  -- pair (i, j) into its entry
  unfoldable pub sheets_turn : ℕ → ℕ → List Float → Ans (List Float)
  sheets_turn i j s = pair i j >>= λ p. held (store_row s (cell i j) (row p))

  unfoldable pub sheets_row : ℕ → List Float → Ans (List Float)
  sheets_row i s = walk n (sheets_turn i) s

  -- +0 where unused
  unfoldable pub sheets_of : Ans (List Float)
  sheets_of = walk n sheets_row (replicate (6 * sheet) zero64)
