-- `dual_num::float_base` meets its contract. Assumes nothing.
use Rattle.dual_num.specs.Laws.{float_is}
use Rattle.dual_num.proofs.float_base.Goals as goal

pub returns : goal.returns
returns c = record { power = rw (c.log_base.ensures, c.base_inside.ensures) (float_is _); value = rw (c.log_base.ensures, c.base_inside.ensures) }
