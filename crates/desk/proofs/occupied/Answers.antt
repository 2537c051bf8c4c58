-- `desk::occupied` meets its contract. Assumes nothing.
use Prim.Native.Nat.{◌*◌}
use mathlib.Core.Path.{ap, ◌∙◌}
use Rattle.desk_place.specs.Layout.{waits_in}
use Rattle.desk_place.proofs.Steps.{part_to}
use Rattle.desk.proofs.occupied.Goals as goal

pub returns : goal.returns
returns c = c.waits.ensures ∙ ap waits_in (part_to (148 * c.args.k) 148 c.args.bytes.now)
