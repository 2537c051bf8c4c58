-- `slope_num::DualSlopeNum::plain_mul` meets its contract. Assumes nothing.
use Rattle.dual.specs.Value.{dual_of}
use Rattle.slope_num.specs.Laws.{as_it_is}
use Rattle.slope_num.proofs.DualSlopeNum.plain_mul.Goals as goal

pub returns : goal.returns
returns c w = rw (as_it_is dual_of c.args.x, as_it_is dual_of, c.mul.ensures, c.plain.ensures)
