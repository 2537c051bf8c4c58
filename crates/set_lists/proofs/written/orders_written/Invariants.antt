-- `set_lists::orders_written` meets its contract. Assumes nothing.
use Rattle.saftvrqmie_parameters.specs.Parameters.{unused}
use Rattle.saftvrqmie_potential.specs.Potential.{order_number}
use Rattle.sizes.specs.Sizes.{sheet}
use mathlib.Core.Path.{◌≡◌}
use Rattle.number.specs.Walk.{turns}
use lib.ListN.{set, get_or, length}
use Rattle.set_lists.proofs.written.orders_written.Given as goal

abbrev pub invariant-loop-e : goal.invariant-loop-e
invariant-loop-e l = (length l.l ≡ sheet) × (l.l ≡ turns l.e (λ e s. set s e (order_number (get_or l.fn.orders e unused).order)) l.initial.l)
