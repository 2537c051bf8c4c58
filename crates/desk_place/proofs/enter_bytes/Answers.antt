-- `desk_place::enter_bytes` meets its contract. Assumes nothing.
use Rattle.desk_place.proofs.Steps.{byte_is, bytes_are, four_length}
use mathlib.Core.Path.{◌∙◌}
use native.Mathlib.Omega.{arith}
use lib.ListN.{length-set}
use Rattle.desk_place.proofs.enter_bytes.Goals as goal

pub slice_bounds-lay-end : goal.slice_bounds-lay-end
slice_bounds-lay-end c = simp length-set (omega (arith, c.requires.0))

pub shape_of-bytes : goal.shape_of-bytes
shape_of-bytes c = omega (arith, four_length c.args.bytes.now c.args.count c.from.result)

pub returns : goal.returns
returns c = bytes_are _ _ _ _ _ _ c.requires.0 c.requires.1 (c.from.ensures ∙ byte_is _) c.lay.ensures
