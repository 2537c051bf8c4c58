-- `tank_lists::listed_tank` meets its contract. Assumes nothing.
use mathlib.Core.Path.{◌∙◌}
use Rattle.number.specs.Answer.{answer}
use Rattle.number.proofs.Walk.{via, handed_on}
use Rattle.tank_lists.proofs.Ways.{tank_refused, tank_held}
use Rattle.tank_lists.proofs.listed_tank.Goals as goal

pub returns-in_err-set : goal.returns-in_err-set
returns-in_err-set c = rw (handed_on _ c.from_residual.ensures) (tank_refused _ _ _ _ _ (via answer c.tank_set.ensures c.in_err-set.was))

pub returns : goal.returns
returns c = c.tank.ensures ∙ tank_held _ _ _ _ _ (via answer c.tank_set.ensures c.in_ok-set.was)
