-- `domthelv::tank::domthelv_vrq_tank_ends` meets its contract. Assumes nothing.
use native.Mathlib.Omega.{arith}
use Rattle.number.proofs.Walk.{via}
use Rattle.saftvrqmie_energies.specs.Energies.{energies_in, energies_answer}
use Rattle.domthelv.specs.Operations.{ends_written}
use Rattle.domthelv.proofs.Operations.{list_delivered, fits}
use Rattle.domthelv.proofs.TankWays.{ends_is, ends_places}
use Rattle.domthelv.proofs.tank.domthelv_vrq_tank_ends.Goals as goal

pub deliver_list-requires : goal.deliver_list-requires
deliver_list-requires c = (omega arith, fits 6 (λ x. ends_written (energies_in x)) _ _ _ c.map.ensures.cases (λ x e. ends_places _ _ _ _ _ (via energies_answer c.listed_tank_ends-worked.ensures e)))

pub returns : goal.returns
returns c = list_delivered energies_in ends_written 6 _ _ _ _ _ _ _ c.map.ensures.cases (λ x e. ends_places _ _ _ _ _ (via energies_answer c.listed_tank_ends-worked.ensures e)) c.listed_tank_ends-worked.ensures (ends_is _ _ _ _) c.deliver_list.ensures
