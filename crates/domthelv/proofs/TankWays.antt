-- The tank behind the boundary, over plain values. Assumes nothing.
use Prim.Native.Nat.{ℕ}
use lib.Dec.{eqb}
use lib.Ieee.{Float}
use lib.ListN.{length}
use mathlib.Core.List.{List}
use mathlib.Core.Path.{◌≡◌, refl}
use mathlib.Core.Bool.{Bool}
use borrow.Author.Tests.{eqb-true}
use Rattle.number.specs.Ans.{held, ◌>>=◌}
use Rattle.enclosure.specs.declared.Ends.{Ends}
use Rattle.saftvrqmie_energies.specs.Energies.{EnergiesIn}
use Rattle.saftvrqmie_tank.specs.Tank.{TankLists}
use Rattle.set_lists.specs.Sets.{QuantumLists}
use Rattle.tank_lists.specs.Lists.{listed_tank, listed_tank_ends}
use Rattle.tank_lists.proofs.Ways.{tank_right_told, ends_right}
use Rattle.domthelv.specs.Operations.{energies_written, ends_written}
use Rattle.domthelv.specs.Tank.{vrq_tank, vrq_tank_ends}

module _ (s : QuantumLists) (q : TankLists) (wanted : Bool) (l : List Float) where
  pub tank_is : vrq_tank s q wanted l ≡ (listed_tank s q wanted (eqb (length l) 3) >>= λ e. held (energies_written e l))
  unfolding vrq_tank
  tank_is = refl

  pub ends_is : vrq_tank_ends s q wanted l ≡ (listed_tank_ends s q wanted (eqb (length l) 6) >>= λ e. held (ends_written e l))
  unfolding vrq_tank_ends
  ends_is = refl

-- the list that is written has its places
module _ (s : QuantumLists) (q : TankLists) (wanted : Bool) (n : ℕ) where
  pub tank_places : (e : EnergiesIn Float) → listed_tank s q wanted (eqb n 3) ≡ held e → n ≡ 3
  tank_places e p = eqb-true n 3 (tank_right_told s q wanted (eqb n 3) e p)

  pub ends_places : (e : EnergiesIn Ends) → listed_tank_ends s q wanted (eqb n 6) ≡ held e → n ≡ 6
  ends_places e p = eqb-true n 6 (ends_right s q wanted (eqb n 6) e p)
