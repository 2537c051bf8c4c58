-- A list, read by its index.
use Rattle.std.specs.Prelude.{ℕ, List, slice_index_or, Float}
use Rattle.std.specs.Float.{nan}
use Rattle.number.specs.Arith.{Arith}

-- entry i; beyond the list it is not read
abbrev pub at : List Float → ℕ → Float
at l i = slice_index_or l i nan

-- the same of a list of a run
abbrev pub nth : (A : Arith) → List A.Num → ℕ → A.Num
nth A l i = slice_index_or l i (A.lit nan)
