-- `dual_num::F64DualNum::plain_ln` meets its contract. Assumes nothing.
use mathlib.Core.Path.{sym, ◌∙◌}
use Rattle.dual_num.proofs.Powers.{asked_once}
use Rattle.dual_num.proofs.F64DualNum.plain_ln.Goals as goal

pub returns : goal.returns
returns c w = c.ln.ensures ∙ sym (asked_once c.args.a _)
