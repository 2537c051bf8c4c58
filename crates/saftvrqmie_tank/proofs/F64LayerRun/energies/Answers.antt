-- `saftvrqmie_tank::F64LayerRun::energies` meets its contract. Assumes nothing.
use mathlib.Core.Path.{sym, ◌∙◌}
use Rattle.saftvrqmie_tank.proofs.Runs.{float_run}
use Rattle.saftvrqmie_tank.proofs.F64LayerRun.energies.Goals as goal

pub returns : goal.returns
returns c = c.energies_of.ensures ∙ sym (float_run _ _ _ _ _ _)
