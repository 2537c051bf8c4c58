-- `saftvrqmie_tank_ends::tank_ends` meets its contract. Assumes nothing.
use mathlib.Core.Path.{◌∙◌}
use Rattle.number.proofs.Walk.{via, handed_on}
use Rattle.saftvrqmie_energies.specs.Energies.{energies_answer}
use Rattle.saftvrqmie_tank_ends.proofs.Ways.{ends_refused, ends_held}
use Rattle.saftvrqmie_tank_ends.proofs.tank_ends.Goals as goal

pub returns-in_err-e : goal.returns-in_err-e
returns-in_err-e c = rw (handed_on _ c.from_residual.ensures) (ends_refused _ _ _ _ (via energies_answer c.tank_of.ensures c.in_err-e.was))

pub returns : goal.returns
returns c = c.sound_ends.ensures ∙ ends_held _ _ _ _ (via energies_answer c.tank_of.ensures c.in_ok-e.was)
