-- Slip 12's desk: how the desk lies in two lists, and the three calls over any two lists.
use Rattle.std.specs.Prelude.{ℕ, ◌+◌, ◌*◌, eqb, cond, Option, None, Some, Float, get_or, length, set, replicate, List, Bool, true, ◌&&◌, Result}
use Rattle.number.specs.declared.refusal.Refusal.{Refusal}
use Rattle.number.specs.Answer.{answer_by}
use Rattle.number.specs.Ans.{Ans, held, refused, ◌>>=◌, demand}
use Rattle.limits.specs.Limits.{state_within}
use Rattle.saftvrqmie.specs.Table.{blank, temperature_table}
use Rattle.saftvrqmie_energies.specs.Energies.{EnergiesIn, energies, energies_answer}
use Rattle.set_lists.specs.Sets.{quantum_lists, quantum_set}
use Rattle.round_robin.specs.Desk.{places, Shelf, Work, Told, idle, worked, finished, Served, Entered, serve, submit}
use Rattle.desk_place.specs.Layout.{part, over, Lists, place_floats, place_bytes, waits_in}
use Rattle.desk_place.specs.Place.{Query, enter, unit}
use Rattle.desk.specs.declared.DeskQuery.{DeskQuery}
use Rattle.desk.specs.declared.Served as Declared
use Rattle.desk.specs.declared.Served.TheVariants as Desk

-- ---- the desk's lists: sixteen parts of each, one for a place, and the place served last behind the bytes
abbrev pub last_at : ℕ
last_at = place_bytes * places

-- 1: a list of another length
unfoldable pub right_desk : ℕ → ℕ → Bool
right_desk a b = eqb a (place_floats * places) && eqb b (last_at + 1)

-- whether place k is occupied
abbrev pub occupied_in : List ℕ → ℕ → Bool
occupied_in b k = waits_in (part (place_bytes * k) place_bytes b)

abbrev pub place_of : Lists → ℕ → Lists
place_of l k = record { floats = part (place_floats * k) place_floats l.floats; bytes = part (place_bytes * k) place_bytes l.bytes }

abbrev pub placed : Lists → ℕ → Lists → Lists
placed l k p = record { floats = over (place_floats * k) p.floats l.floats; bytes = over (place_bytes * k) p.bytes l.bytes }

abbrev pub shelf : Shelf Lists Lists
shelf =
    record {
      place = place_of;
      put = placed;
      last = λ l. get_or l.bytes last_at 0;
      served = λ l k. record { floats = l.floats; bytes = set l.bytes last_at k };
    }

-- what a search for a place finds: none where it ends at `places`
unfoldable pub found : ℕ → Option ℕ
found k = cond (eqb k places) None (Some k)

abbrev pub query_of : DeskQuery → Query
query_of q = record { lists = quantum_lists q.lists; temperature = q.temperature; fractions = q.fractions.now; densities = q.densities.now; wanted = q.non_additive }

-- what the direct calls for table and energies give
unfoldable pub directly : Query → Ans (EnergiesIn Float)
directly q =
    quantum_set true q.lists >>= λ s.
    temperature_table s q.temperature blank >>= λ w.
    energies s q.temperature q.fractions q.densities w.values q.wanted

-- ---- the door: 'turned down so at the door, 1 first'
unfoldable pub state_lengths : ℕ → List Float → List Float → Bool
state_lengths n x rho = eqb (length x) n && eqb (length rho) n

-- every 1 of both calls, then 4 for an order, then every 2
unfoldable pub door : Query → Ans Bool
door q =
    quantum_set (state_lengths q.lists.count q.fractions q.densities) q.lists >>= λ _.
    demand 2 (state_within q.lists.count q.temperature q.fractions q.densities)

abbrev pub quantum : Work Lists Query (Ans (EnergiesIn Float))
quantum = record { waits = λ p. waits_in p.bytes; unit = unit; door = door; enter = enter }

-- ---- the three calls: 1 for a list of the desk, then the call

-- 'a desk begun empty': all places free, and the last one served last, so that the first is served first
unfoldable pub begun : Lists → Ans Lists
begun l =
    demand 1 (right_desk (length l.floats) (length l.bytes)) >>= λ _.
    held (record { floats = l.floats; bytes = set (replicate (last_at + 1) 0) last_at 15 })

unfoldable pub submitted : Lists → Query → Ans (Entered Lists)
submitted l q =
    demand 1 (right_desk (length l.floats) (length l.bytes)) >>= λ _.
    submit shelf quantum l q

unfoldable pub served_once : Lists → Ans (Served Lists (Ans (EnergiesIn Float)))
served_once l =
    demand 1 (right_desk (length l.floats) (length l.bytes)) >>= λ _.
    held (serve shelf quantum l)

-- what the code's answers say
abbrev pub served_told : Declared.Served → Told (Ans (EnergiesIn Float))
served_told Desk.Idle = idle
served_told Desk.Worked = worked
served_told (Desk.Finished k a) = finished k (energies_answer a)

abbrev pub desk_answer : Result Declared.Served Refusal → Ans (Told (Ans (EnergiesIn Float)))
desk_answer = answer_by served_told

-- what is told of a call, and both lists afterwards
unfoldable pub told_of : Ans (Served Lists (Ans (EnergiesIn Float))) → Ans (Told (Ans (EnergiesIn Float)))
told_of (held s) = held s.told
told_of (refused n) = refused n

unfoldable pub desk_of : Lists → Ans (Served Lists (Ans (EnergiesIn Float))) → Lists
desk_of l (held s) = s.desk
desk_of l (refused n) = l

unfoldable pub place_told : Ans (Entered Lists) → Ans ℕ
place_told (held e) = held e.place
place_told (refused n) = refused n

unfoldable pub entered_of : Lists → Ans (Entered Lists) → Lists
entered_of l (held e) = e.desk
entered_of l (refused n) = l
