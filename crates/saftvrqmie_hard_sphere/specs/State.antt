-- What the sums read, in the numbers N: sheets of a table by their entry e, component lists by their index i.
use Rattle.std.specs.Prelude.{ℕ, ◌+◌, ◌*◌, ◌<◌, ◌≤◌, Float, List, map, ◌≡◌}
use Rattle.number.specs.Arith.{Arith}
use Rattle.number.specs.Lists.{at, nth}
use Rattle.sizes.specs.Sizes.{side, sheet, cell}
use Rattle.dual_num.specs.declared.NumberList.{NumberList}
use Rattle.saftvrqmie_hard_sphere.specs.declared.State.{State}

-- diameters of the components: the diagonal of a sheet
abbrev pub diagonal : {N : Type 0} → (ℕ → N) → ℕ → N
diagonal d i = d (cell i i)

module _ (A : Arith) where
  open A use {Num, lit}

  -- 'Inputs .. are single points'
  abbrev pub points : List Float → ℕ → Num
  points l i = lit (at l i)

  -- sheet k of a list
  abbrev pub sheet_of : List Float → ℕ → ℕ → Num
  sheet_of l k e = points l (k * sheet + e)

-- the same of entries that a run reads
abbrev pub sheet_in : {N : Type 0} → (ℕ → N) → ℕ → ℕ → N
sheet_in f k e = f (k * sheet + e)

-- a list's entries, as a run reads them
abbrev pub entries : {N : Type 0} → (List Float → List Float → ℕ → N) → NumberList → ℕ → N
entries entry_of l = entry_of l.values.now l.slopes.now

-- the first n
abbrev pub First : ℕ → (ℕ → Type 0) → Type 0
First n P = (i : ℕ) → i < n → P i

-- ---- what an operation has tested, `has` saying which entries of a list a run can read
abbrev pub Entries : (List Float → List Float → ℕ → Type 0) → ℕ → NumberList → Type 0
Entries has n l = First n (has l.values.now l.slopes.now)

-- a count that a sum begins from, and a list of the components
abbrev pub Components : (List Float → List Float → ℕ → Type 0) → ℕ → NumberList → Type 0
Components has n l = (0 < n) × (n ≤ side) × Entries has n l

-- a count, and a table
abbrev pub Tabled : (List Float → List Float → ℕ → Type 0) → ℕ → NumberList → Type 0
Tabled has n table = (0 < n) × (n ≤ side) × Entries has (4 * sheet) table

-- all three
abbrev pub Listed : (List Float → List Float → ℕ → Type 0) → ℕ → NumberList → NumberList → Type 0
Listed has n l table = (0 < n) × (n ≤ side) × Entries has n l × Entries has (4 * sheet) table

-- a state that an operation has tested with 1
abbrev pub Right : {D : Type 0} → (List Float → List Float → ℕ → Type 0) → State D → Type 0
Right has s = (0 < s.n) × (s.n ≤ side) × Entries has (4 * sheet) s.table × Entries has s.n s.fractions × Entries has s.n s.densities

-- the first n of a run's own list are those of x
abbrev pub Reads : {S : Type 0} (A : Arith) → (S → A.Num) → ℕ → List S → (ℕ → A.Num) → Type 0
Reads A of n l x = (i : ℕ) → i < n → nth A (map of l) i ≡ x i
