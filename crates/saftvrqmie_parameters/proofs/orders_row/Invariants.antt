-- `saftvrqmie_parameters::orders_row` meets its contract. Assumes nothing.
use Rattle.saftvrqmie_parameters.specs.Parameters.{orders_turn}
use Prim.Native.Nat.{◌≤◌, ◌-◌}
use mathlib.Core.Path.{◌≡◌}
use lib.ListN.{length}
use Rattle.number.specs.Walk.{turns}
use Rattle.saftvrqmie_parameters.proofs.orders_row.Given as goal

abbrev pub invariant-loop-j : goal.invariant-loop-j
invariant-loop-j l = (l.j ≤ length l.fh) × (l.orders ≡ turns l.j (orders_turn l.fh l.i) l.initial.orders)

abbrev pub decreases-loop-j : goal.decreases-loop-j
decreases-loop-j l = length l.fh - l.j
