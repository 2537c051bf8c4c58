-- `saftvrqmie_parameters::order_walk` meets its contract. Assumes nothing.
use Rattle.saftvrqmie_parameters.specs.Parameters.{order_row}
use Prim.Native.Nat.{◌≤◌, ◌-◌}
use mathlib.Core.Path.{◌≡◌}
use Rattle.number.specs.Ans.{held}
use Rattle.number.specs.Walk.{walk}
use lib.ListN.{length}
use mathlib.Core.Bool.{true}
use Rattle.saftvrqmie_parameters.proofs.order_walk.Given as goal

abbrev pub invariant-loop-a : goal.invariant-loop-a
invariant-loop-a l = (l.a-index ≤ length l.fh) × (held true ≡ walk l.a-index (λ i _. order_row (length l.fh) l.fh i) true)

abbrev pub decreases-loop-a : goal.decreases-loop-a
decreases-loop-a l = length l.fh - l.a-index
