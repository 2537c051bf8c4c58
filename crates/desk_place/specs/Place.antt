-- A quantum query in its place (Slip 12): how it comes in, and one unit of it.
use Rattle.std.specs.Prelude.{ℕ, ◌+◌, eqb, ltb, Float, set, List, [], Bool, ◌&&◌, cond, Result, None, Some}
use Rattle.std.specs.Prelude as Std
use Rattle.std.proofs.Math.Option.{Option, none, some}
use Rattle.number.specs.Ans.{Ans, held, refused, ◌>>=◌, demand}
use Rattle.saftvrqmie.specs.Table.{Lent, blank, work_turn, table_finite}
use Rattle.saftvrqmie_energies.specs.Energies.{EnergiesIn, energies, energies_answer}
use Rattle.set_lists.specs.Sets.{QuantumLists}
use Rattle.round_robin.specs.Desk.{Step, going, done}
use Rattle.desk_place.specs.Layout.{over, Lists, m_at, fractions_at, densities_at, temperature_at, sheets_at, table_at, count_at, row_at, column_at, wanted_at, orders_at, count_in, row_in, column_in, wanted_in, temperature_of, fractions_of, densities_of, table_of, set_of}
use Rattle.number.specs.declared.refusal.Refusal.{Refusal}
use Rattle.saftvrqmie_energies.specs.declared.Energies.{Energies}

-- a query: a set's lists, the temperature, fractions, densities, and whether the non-additive part is wanted
pub record Query : Type 0 where
  pub lists : QuantumLists
  pub temperature : Float
  pub fractions : List Float
  pub densities : List Float
  pub wanted : Bool

-- the query laid over its place, with a blank table and the first pair in hand
unfoldable pub floats_entered : List Float → List Float → Float → List Float → List Float → List Float → List Float
floats_entered m sheets t x rho l = over table_at blank.values (over sheets_at sheets (over densities_at rho (over fractions_at x (over m_at m (set l temperature_at t)))))

unfoldable pub bytes_entered : ℕ → List ℕ → Bool → List ℕ → List ℕ
bytes_entered n orders wanted b = over orders_at orders (set (set (set (set b count_at n) row_at 0) column_at 0) wanted_at (cond wanted 1 0))

abbrev pub enter : Query → Lists → Lists
enter q p =
    record {
      floats = floats_entered q.lists.m q.lists.sheets q.temperature q.fractions q.densities p.floats;
      bytes = bytes_entered q.lists.count q.lists.orders q.wanted p.bytes;
    }

-- ---- a unit: 'one pair of the temperature table, worked row by row, and the last unit also works out the energies'

-- 'frees the place'
abbrev pub freed : List ℕ → List ℕ
freed b = set b count_at 0

-- the pair in hand is the last one
unfoldable pub last_pair : List ℕ → Bool
last_pair b = eqb (row_in b + 1) (count_in b) && eqb (column_in b + 1) (count_in b)

-- the next pair: of this row, or the first of the next
unfoldable pub moved : List ℕ → List ℕ
moved b = cond (ltb (column_in b + 1) (count_in b)) (set b column_at (column_in b + 1)) (set (set b row_at (row_in b + 1)) column_at 0)

-- 'a 7 at the last', then the energies of the whole table
unfoldable pub answer_of : Lists → Ans (EnergiesIn Float)
answer_of p =
    demand 7 (table_finite (table_of p)) >>= λ _.
    energies (set_of p) (temperature_of p) (fractions_of p) (densities_of p) (table_of p) (wanted_in p.bytes)

unfoldable pub settled : Lists → Step Lists (Ans (EnergiesIn Float))
settled p = cond (last_pair p.bytes) (done (record { floats = p.floats; bytes = freed p.bytes }) (answer_of p)) (going (record { floats = p.floats; bytes = moved p.bytes }))

-- 'A 6 ends the query in its unit'
unfoldable pub paired : Lists → Ans Lent → Step Lists (Ans (EnergiesIn Float))
paired p (held w) = settled (record { floats = over table_at w.values p.floats; bytes = p.bytes })
paired p (refused n) = done (record { floats = p.floats; bytes = freed p.bytes }) (refused n)

-- the pair in hand, worked as the table's walk works it; a desk keeps no counts of searches
unfoldable pub unit : Lists → Step Lists (Ans (EnergiesIn Float))
unit p = paired p (work_turn (set_of p).sheets (set_of p).orders (temperature_of p) (row_in p.bytes) (column_in p.bytes) (record { values = table_of p; numbers = [] }))

-- what a unit leaves in its place, and what it answers
unfoldable pub place_left : Step Lists (Ans (EnergiesIn Float)) → Lists
place_left (going p) = p
place_left (done p a) = p

unfoldable pub step_told : Step Lists (Ans (EnergiesIn Float)) → Option (Ans (EnergiesIn Float))
step_told (going p) = none
step_told (done p a) = some a

abbrev pub unit_answer : Std.Option (Result (Energies Float) Refusal) → Option (Ans (EnergiesIn Float))
unit_answer None = none
unit_answer (Some a) = some (energies_answer a)
