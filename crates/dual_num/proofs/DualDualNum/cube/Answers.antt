-- `dual_num::DualDualNum::cube` meets its contract. Assumes nothing.
use Rattle.dual_num.proofs.DualDualNum.cube.Goals as goal

pub returns : goal.returns
returns c w = rw (← c.cube.ensures)
