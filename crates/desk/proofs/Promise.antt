-- What Slip 12 promises of a desk, whatever bits its lists had when it was begun or lent. Assumes nothing.
use Prim.Native.Nat.{ℕ, ◌*◌, ◌≤◌, ◌<◌}
use mathlib.Core.Path.{◌≡◌}
use mathlib.Core.Bool.{true, false}
use mathlib.Core.List.{List}
use mathlib.Core.Option.{some}
use lib.ListN.{length}
use Rattle.number.specs.Ans.{held, demand}
use Rattle.number.proofs.Walk.{demanded, then_held}
use Rattle.round_robin.specs.Desk.{places, Entered, Call, serves, outcome, submit}
use Rattle.round_robin.proofs.Bound.{finished_within, accepted}
use Rattle.desk_place.specs.Layout.{Lists}
use Rattle.desk_place.specs.Place.{Query}
use Rattle.desk.specs.Desk.{right_desk, occupied_in, shelf, quantum, directly, submitted}
use Rattle.desk.proofs.Shelf.{Right, desk_right, apart}
use Rattle.desk.proofs.Promised.{promised}

-- an accepted query found a desk of the right lengths
pub entered : (l : Lists) (q : Query) (e : Entered Lists) → submitted l q ≡ held e → Right l × (submit shelf quantum l q ≡ held e)
unfolding submitted
entered l q e h =
    let f = then_held (demand 1 (right_desk (length l.floats) (length l.bytes))) _ e h in
    (desk_right l (demanded 1 _ f.0 f.1), f.2)

-- 'A query of n components that was accepted is finished within 16 times n squared calls': by any calls among which 16 n² serve, whatever else is submitted between them, its place is finished,
-- and first so with what the direct calls for table and energies give: 'the energies they would give', or their 6 or 7
pub finished_in_time : (l : Lists) (q : Query) (e : Entered Lists) (cs : List (Call Query)) → submitted l q ≡ held e → places * (q.lists.count * q.lists.count) ≤ serves cs
    → outcome shelf quantum e.place cs e.desk ≡ some (directly q)
finished_in_time l q e cs h n = let f = entered l q e h in finished_within shelf quantum apart promised l q e cs f.0 f.1 n

-- 'An accepted query takes the lowest free place': that place was free, and each below it occupied
pub takes_lowest : (l : Lists) (q : Query) (e : Entered Lists) → submitted l q ≡ held e
    → (e.place < places) × (occupied_in l.bytes e.place ≡ false) × ((j : ℕ) → j < e.place → occupied_in l.bytes j ≡ true)
takes_lowest l q e h =
    let f = entered l q e h in
    let a = accepted shelf quantum apart promised l q e f.1 in
    (a.small, a.was_free, a.below)
