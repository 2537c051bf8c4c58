-- `saftvrqmie_parameters::order_row` meets its contract. Assumes nothing.
use Rattle.saftvrqmie_parameters.specs.Parameters.{pair_orders}
use Prim.Native.Nat.{◌≤◌, ◌-◌}
use mathlib.Core.Path.{◌≡◌}
use Rattle.number.specs.Ans.{held}
use Rattle.number.specs.Walk.{walk}
use lib.ListN.{length, get_or}
use mathlib.Core.Bool.{true}
use Rattle.saftvrqmie_parameters.proofs.order_row.Given as goal

abbrev pub invariant-loop-b : goal.invariant-loop-b
invariant-loop-b l = (l.b-index ≤ length l.fh) × (held true ≡ walk l.b-index (λ j _. pair_orders l.a (get_or l.fh j 0)) true)

abbrev pub decreases-loop-b : goal.decreases-loop-b
decreases-loop-b l = length l.fh - l.b-index
