-- Slip 10 behind the boundary: a tank in layers, with the lists that a call lends.
use Rattle.std.specs.Prelude.{eqb, Float, length, List, Bool}
use Rattle.number.specs.Ans.{Ans, held, ◌>>=◌}
use Rattle.saftvrqmie_tank.specs.Tank.{TankLists}
use Rattle.set_lists.specs.Sets.{QuantumLists}
use Rattle.tank_lists.specs.Lists.{listed_tank, listed_tank_ends}
use Rattle.domthelv.specs.Operations.{energies_written, ends_written}

-- hard sphere, dispersion, non-additive of the tank
unfoldable pub vrq_tank : QuantumLists → TankLists → Bool → List Float → Ans (List Float)
vrq_tank s q wanted l =
    listed_tank s q wanted (eqb (length l) 3) >>= λ e.
    held (energies_written e l)

-- low and high end of each of the three
unfoldable pub vrq_tank_ends : QuantumLists → TankLists → Bool → List Float → Ans (List Float)
vrq_tank_ends s q wanted l =
    listed_tank_ends s q wanted (eqb (length l) 6) >>= λ e.
    held (ends_written e l)
