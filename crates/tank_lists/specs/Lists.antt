-- Slip 10 behind the boundary: a tank over a quantum set that crosses as its lists. 14 first, then 1 for anything that is given 1, then 4 for an order of the set, then the tank's other refusals in their order.
use Rattle.std.specs.Prelude.{ℕ, Float, Bool, ◌&&◌}
use Rattle.number.specs.Ans.{Ans, ◌>>=◌, demand}
use Rattle.enclosure.specs.declared.Ends.{Ends}
use Rattle.saftvrqmie_parameters.specs.declared.SaftVRQMiePars.{SaftVRQMiePars}
use Rattle.saftvrqmie_energies.specs.Energies.{EnergiesIn}
use Rattle.saftvrqmie_tank.specs.Tank.{TankLists, layers_within, tank_lengths, tank}
use Rattle.saftvrqmie_tank_ends.specs.TankEnds.{tank_ends}
use Rattle.set_lists.specs.Sets.{QuantumLists, quantum_set}

-- 1 of the tank's lists, and of the list that the answer is written into: `right` where that has its length
unfoldable pub tank_right : ℕ → TankLists → Bool → Bool
tank_right n q right = right && tank_lengths n q

abbrev pub tank_set : QuantumLists → TankLists → Bool → Ans SaftVRQMiePars
tank_set s q right =
    demand 14 (layers_within q.layers) >>= λ _.
    quantum_set (tank_right s.count q right) s

unfoldable pub listed_tank : QuantumLists → TankLists → Bool → Bool → Ans (EnergiesIn Float)
listed_tank s q wanted right = tank_set s q right >>= λ p. tank p q wanted

unfoldable pub listed_tank_ends : QuantumLists → TankLists → Bool → Bool → Ans (EnergiesIn Ends)
listed_tank_ends s q wanted right = tank_set s q right >>= λ p. tank_ends p q wanted
