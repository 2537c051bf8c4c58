-- `number::abs` meets its contract. Assumes nothing.
use mathlib.Core.Path.{◌∙◌}
use Rattle.number.proofs.Absolute.{cleared}
use Rattle.number.proofs.abs.Goals as goal

pub returns : goal.returns
returns c = c.abs.ensures.value ∙ cleared c.args.x
