-- `dual_num::enclosure_base` meets its contract. Assumes nothing.
use Rattle.dual_num.specs.Laws.{enclosure_is}
use Rattle.dual_num.proofs.enclosure_base.Goals as goal

pub returns : goal.returns
returns c = record { power = rw c.float_base.ensures.value (enclosure_is _); value = rw c.float_base.ensures.value }
