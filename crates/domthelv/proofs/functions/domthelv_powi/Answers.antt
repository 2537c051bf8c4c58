-- `domthelv::functions::domthelv_powi` meets its contract. Assumes nothing.
use mathlib.Core.Path.{ap, ◌∙◌}
use mir.Syntax.{w32}
use mir.ValLaws.{to_z-of_z}
use Rattle.number.specs.Arith.{floats, powi}
use Rattle.domthelv.proofs.functions.domthelv_powi.Goals as goal

pub returns : goal.returns
returns c = c.powi.ensures ∙ ap (powi floats c.args.x) (to_z-of_z w32 c.args.n c.ranges.n)
