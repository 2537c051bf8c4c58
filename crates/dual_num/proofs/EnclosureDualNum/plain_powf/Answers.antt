-- `dual_num::EnclosureDualNum::plain_powf` meets its contract. Assumes nothing.
use mathlib.Core.Bool.{true}
use Rattle.dual_num.proofs.EnclosureDualNum.plain_powf.Goals as goal

pub returns : goal.returns
returns c w = rw (c.powf_at.ensures true, c.enclosure_base.ensures.power)
