-- What the round robin asks of a query's units, at the quantum model: a query of n components takes n² of them and ends with the direct calls' answer. Assumes nothing.
use Prim.Native.Nat.{◌*◌}
use mathlib.Core.Bool.{true}
use Rattle.round_robin.proofs.Bound.{Ends}
use Rattle.desk.specs.Desk.{shelf, quantum, directly}
use Rattle.desk.proofs.Shelf.{apart}
use Rattle.desk.proofs.Held.{door_passed, door_held, Holds, unit_goes, unit_whole}
use Rattle.desk.proofs.Entering.{enter_whole, enter_holds}

abbrev pub promised : Ends shelf quantum apart
promised =
    record {
      Holds = Holds;
      units = λ q. q.lists.count * q.lists.count;
      answer = directly;
      unit_whole = λ p w h. unit_whole p w;
      enter_whole = λ q p w d. enter_whole q p w (door_passed q true d);
      enter_holds = λ q p w d. enter_holds q p w (door_passed q true d);
      door_held = door_held;
      waiting = λ q p u h. h.waits;
      unit_goes = λ q p u w h. unit_goes q p u w h;
    }
