-- `saftvrqmie_tank::tank` meets its contract. Assumes nothing.
use mathlib.Core.Path.{◌∙◌}
use Rattle.saftvrqmie_tank.proofs.Runs.{tank_same}
use Rattle.saftvrqmie_tank.proofs.tank.Goals as goal

pub returns : goal.returns
returns c = c.tank_of.ensures ∙ tank_same _ _ _
