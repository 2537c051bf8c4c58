-- `dual_num::dual_base` meets its contract. Assumes nothing.
use Rattle.dual_num.specs.Laws.{dual_base_is}
use Rattle.dual_num.proofs.dual_base.Goals as goal

pub returns : goal.returns
returns c = record { power = rw c.float_base.ensures.value (dual_base_is _); value = rw c.float_base.ensures.value }
