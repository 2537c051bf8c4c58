-- `plain_num::F64PlainNum::exp_m1` meets its contract. Assumes nothing.
use mathlib.Core.Path.{sym, ◌∙◌}
use Rattle.dual_num.proofs.Powers.{asked_once}
use Rattle.plain_num.proofs.F64PlainNum.exp_m1.Goals as goal

pub returns : goal.returns
returns c w = c.exp_m1.ensures ∙ sym (asked_once c.args.self _)
