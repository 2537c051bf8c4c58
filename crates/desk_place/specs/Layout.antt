-- How a place of the desk lies in two lists, one of floats and one of bytes, and what it holds.
use Rattle.std.specs.Prelude.{ℕ, ◌≡◌, ◌+◌, ◌*◌, eqb, Float, get_or, length, take, drop, List, ◌++◌, Bool, true, not}
use Rattle.number.specs.Lists.{at}
use Rattle.sizes.specs.Sizes.{side, sheet}
use Rattle.limits.specs.Limits.{index_within}
use Rattle.saftvrqmie_parameters.specs.declared.SaftVRQMiePars.{SaftVRQMiePars}
use Rattle.set_lists.specs.Sets.{QuantumLists, quantum_read}
use Rattle.desk_place.specs.declared.hand.InHand.{InHand}

-- n elements of a list from a on
abbrev pub part : {E : Type 0} → ℕ → ℕ → List E → List E
part a n l = take n (drop a l)

-- a list with x laid over it from a on
unfoldable pub over : {E : Type 0} → ℕ → List E → List E → List E
over a x l = take a l ++ (x ++ drop (length x) (drop a l))

-- the two lists, of a desk or of a place
pub record Lists : Type 0 where
  pub floats : List Float
  pub bytes : List ℕ

-- ---- a place: the temperature, m, fractions and densities (a side each), six sheets, and the table as far as it is worked
abbrev pub temperature_at : ℕ
temperature_at = 0

abbrev pub m_at : ℕ
m_at = 1

abbrev pub fractions_at : ℕ
fractions_at = 1 + side

abbrev pub densities_at : ℕ
densities_at = 1 + 2 * side

abbrev pub sheets_at : ℕ
sheets_at = 1 + 3 * side

abbrev pub table_at : ℕ
table_at = sheets_at + 6 * sheet

abbrev pub place_floats : ℕ
place_floats = table_at + 4 * sheet

-- the count, the row and the column of the pair in hand, whether the non-additive part is wanted, and the orders (a sheet)
abbrev pub count_at : ℕ
count_at = 0

abbrev pub row_at : ℕ
row_at = 1

abbrev pub column_at : ℕ
column_at = 2

abbrev pub wanted_at : ℕ
wanted_at = 3

abbrev pub orders_at : ℕ
orders_at = 4

abbrev pub place_bytes : ℕ
place_bytes = orders_at + sheet

-- ---- what a place holds
abbrev pub count_in : List ℕ → ℕ
count_in b = get_or b count_at 0

abbrev pub row_in : List ℕ → ℕ
row_in b = get_or b row_at 0

abbrev pub column_in : List ℕ → ℕ
column_in b = get_or b column_at 0

abbrev pub wanted_in : List ℕ → Bool
wanted_in b = not (eqb (get_or b wanted_at 0) 0)

abbrev pub temperature_of : Lists → Float
temperature_of p = at p.floats temperature_at

abbrev pub fractions_of : Lists → List Float
fractions_of p = part fractions_at (count_in p.bytes) p.floats

abbrev pub densities_of : Lists → List Float
densities_of p = part densities_at (count_in p.bytes) p.floats

abbrev pub table_of : Lists → List Float
table_of p = part table_at (4 * sheet) p.floats

abbrev pub lists_of : Lists → QuantumLists
lists_of p = record { count = count_in p.bytes; m = part m_at side p.floats; sheets = part sheets_at (6 * sheet) p.floats; orders = part orders_at sheet p.bytes }

abbrev pub set_of : Lists → SaftVRQMiePars
set_of p = quantum_read (lists_of p)

-- a place is occupied where its bytes have a count and a pair within it; any other bytes are a free place
unfoldable pub waits_in : List ℕ → Bool
waits_in b = index_within (count_in b) (row_in b) (column_in b)

abbrev pub Waits : List ℕ → Type 0
Waits b = (length b ≡ place_bytes) × (waits_in b ≡ true)

-- a place whose query waits: its floats and its bytes
abbrev pub Waiting : List Float → List ℕ → Type 0
Waiting f b = (length f ≡ place_floats) × Waits b

-- what is in hand is what the place's bytes have
abbrev pub Has : List ℕ → InHand → Type 0
Has b h = (length b ≡ place_bytes) × (h.count ≡ count_in b) × (h.row ≡ row_in b) × (h.column ≡ column_in b)
