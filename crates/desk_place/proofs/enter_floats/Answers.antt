-- `desk_place::enter_floats` meets its contract. Assumes nothing.
use Rattle.desk_place.proofs.Steps.{five, floats_are}
use native.Mathlib.Omega.{arith}
use mathlib.Core.Path.{◌∙◌}
use lib.ListN.{length-set}
use Rattle.desk_place.proofs.enter_floats.Goals as goal

pub slice_bounds-lay-end : goal.slice_bounds-lay-end
slice_bounds-lay-end c = omega (arith, length-set c.args.floats.now 0 c.args.temperature, c.requires.0)

pub slice_bounds-lay-end-2 : goal.slice_bounds-lay-end-2
slice_bounds-lay-end-2 c = omega (arith, length-set c.args.floats.now 0 c.args.temperature, c.requires.0)

pub slice_bounds-lay-end-3 : goal.slice_bounds-lay-end-3
slice_bounds-lay-end-3 c = omega (arith, length-set c.args.floats.now 0 c.args.temperature, c.requires.0)

pub slice_bounds-lay-end-4 : goal.slice_bounds-lay-end-4
slice_bounds-lay-end-4 c = omega (arith, length-set c.args.floats.now 0 c.args.temperature, c.requires.0)

pub slice_bounds-fill-end : goal.slice_bounds-fill-end
slice_bounds-fill-end c = omega (arith, length-set c.args.floats.now 0 c.args.temperature, c.requires.0)

pub shape_of-floats : goal.shape_of-floats
shape_of-floats c = omega (arith, length-set c.args.floats.now 0 c.args.temperature)

pub returns : goal.returns
returns c = floats_are _ _ _ _ _ _ _ (five _ _ _ _ _ _ _ _ _ _ (length-set c.args.floats.now 0 c.args.temperature ∙ c.requires.0) c.requires.1 c.requires.3 c.requires.4 c.requires.2 c.lay.ensures c.lay-2.ensures c.lay-3.ensures c.lay-4.ensures (c.fill.ensures.after (λ y e. e)))
