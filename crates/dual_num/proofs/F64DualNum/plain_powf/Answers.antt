-- `dual_num::F64DualNum::plain_powf` meets its contract. Assumes nothing.
use mathlib.Core.Bool.{true}
use Rattle.dual_num.proofs.F64DualNum.plain_powf.Goals as goal

pub returns : goal.returns
returns c w = rw (c.powf_at.ensures true, c.float_base.ensures.power)
