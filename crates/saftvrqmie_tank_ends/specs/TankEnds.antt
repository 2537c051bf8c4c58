-- Slip 10: the two ends of a tank's energies: the tank's refusals in their order, then 8, then the ends of each.
use Rattle.std.specs.Prelude.{ℕ, Float, List, Bool}
use Rattle.number.specs.Ans.{Ans}
use Rattle.number.specs.Arith.{floats}
use Rattle.number.specs.Functions.{Answers}
use Rattle.elementary.specs.Port.{port}
use Rattle.enclosure.specs.declared.Enclosure.{Enclosure}
use Rattle.enclosure.specs.declared.Ends.{Ends}
use Rattle.enclosure.specs.Enclosure.{enclosures}
use Rattle.saftvrqmie_parameters.specs.declared.SaftVRQMiePars.{SaftVRQMiePars}
use Rattle.saftvrqmie_energies.specs.Energies.{EnergiesIn}
use Rattle.saftvrqmie_energies_ends.specs.Operation.{each_ends_of}
use Rattle.saftvrqmie_tank.specs.Tank.{TankLists, tank_run, tank_from, tables_of, runs_by}

-- 'Ends for the tank follow the outward rules over the layers' ends'; 'for the tank's ends, 8 in a layer or in the tank comes after all of these': an enclosure that is not sound leaves no sum sound
abbrev pub tank_ends_from : SaftVRQMiePars → TankLists → (ℕ → Ans (List Float)) → Bool → (ℕ → List Float → Ans (EnergiesIn Float)) → (ℕ → List Float → Ans (EnergiesIn Enclosure)) → Ans (EnergiesIn Ends)
tank_ends_from s q tables wanted float enclosure = each_ends_of (tank_from s q tables wanted float) (tank_run enclosures q tables wanted enclosure)

-- whatever the elementary functions answer, and whatever the tables are
unfoldable pub tank_ends_by : Answers → SaftVRQMiePars → TankLists → (ℕ → Ans (List Float)) → Bool → Ans (EnergiesIn Ends)
tank_ends_by E s q tables wanted = tank_ends_from s q tables wanted (runs_by floats E s q wanted) (runs_by enclosures E s q wanted)

abbrev pub tank_ends : SaftVRQMiePars → TankLists → Bool → Ans (EnergiesIn Ends)
tank_ends s q wanted = tank_ends_by port s q (tables_of s q) wanted
