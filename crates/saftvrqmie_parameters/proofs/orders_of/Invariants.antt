-- `saftvrqmie_parameters::orders_of` meets its contract. Assumes nothing.
use Rattle.saftvrqmie_parameters.specs.Parameters.{orders_row, unused}
use Prim.Native.Nat.{◌≤◌, ◌-◌}
use mathlib.Core.Path.{◌≡◌}
use Rattle.number.specs.Walk.{turns}
use lib.ListN.{length, replicate}
use Rattle.sizes.specs.Sizes.{sheet}
use Rattle.saftvrqmie_parameters.proofs.orders_of.Given as goal

abbrev pub invariant-loop-i : goal.invariant-loop-i
invariant-loop-i l = (l.i ≤ length l.fh) × (l.orders ≡ turns l.i (orders_row (length l.fh) l.fh) (replicate sheet unused))

abbrev pub decreases-loop-i : goal.decreases-loop-i
decreases-loop-i l = length l.fh - l.i
