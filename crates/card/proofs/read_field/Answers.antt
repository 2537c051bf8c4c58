use native.Mathlib.Omega.{arith}
use mathlib.Core.Path.{◌∙◌}
use Rattle.card.proofs.Reading.{field_spared, field_plain}
use Rattle.card.proofs.read_field.Goals as goal

-- src/lib.rt:96:9

pub returns-then-field : goal.returns-then-field
returns-then-field c = (c.spared.ensures.0 ∙ field_spared _ _ c.if-field.true, omega (arith, c.spared.ensures.1))

-- src/lib.rt:91:1
pub returns : goal.returns
returns c = (c.plain.ensures.0 ∙ field_plain _ _ c.if-field.false, omega (arith, c.plain.ensures.1))
