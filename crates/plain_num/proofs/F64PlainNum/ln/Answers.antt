-- `plain_num::F64PlainNum::ln` meets its contract. Assumes nothing.
use mathlib.Core.Path.{sym, ◌∙◌}
use Rattle.dual_num.proofs.Powers.{asked_once}
use Rattle.plain_num.proofs.F64PlainNum.ln.Goals as goal

pub returns : goal.returns
returns c w = c.ln.ensures ∙ sym (asked_once c.args.self _)
