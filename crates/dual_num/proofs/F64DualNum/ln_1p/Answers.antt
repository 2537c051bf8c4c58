-- `dual_num::F64DualNum::ln_1p` meets its contract. Assumes nothing.
use mathlib.Core.Path.{sym, ◌∙◌}
use Rattle.dual_num.proofs.Powers.{asked_once}
use Rattle.dual_num.proofs.F64DualNum.ln_1p.Goals as goal

pub returns : goal.returns
returns c w = c.ln_1p.ensures ∙ sym (asked_once c.args.self _)
