-- `slope_num::EnclosureDualSlopeNum::plain_mul` meets its contract. Assumes nothing.
use Rattle.enclosure_dual.specs.Value.{dual_of}
use Rattle.slope_num.specs.Laws.{as_it_is}
use Rattle.slope_num.proofs.EnclosureDualSlopeNum.plain_mul.Goals as goal

pub returns : goal.returns
returns c w = rw (as_it_is dual_of c.args.x, as_it_is dual_of, c.plain_mul.ensures)
