-- `slope_num::DualSlopeNum::powi_down` meets its contract. Assumes nothing.
use Rattle.dual.specs.Value.{dual_of}
use Rattle.slope_num.specs.Laws.{as_it_is}
use Rattle.slope_num.proofs.DualSlopeNum.powi_down.Goals as goal

pub returns : goal.returns
returns c w = rw (as_it_is dual_of c.args.self, as_it_is dual_of, c.pow_down.ensures)
