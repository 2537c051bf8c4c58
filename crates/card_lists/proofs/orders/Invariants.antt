-- `card_lists::orders` meets its contract. Assumes nothing.
use Prim.Native.Nat.{◌+◌, ◌*◌, ◌%◌, ◌-◌, ◌≤◌}
use mathlib.Core.Path.{◌≡◌}
use lib.ListN.{length, take, get_or}
use mathlib.Core.List.{[], ◌∷◌}
use Rattle.card.specs.Fields.{joined}
use Rattle.sizes.specs.Sizes.{side}
use Rattle.card_lists.proofs.orders.Given as goal

abbrev pub invariant-loop-i : goal.invariant-loop-i
invariant-loop-i l = (l.i ≤ l.n) × (length l.list ≡ side) × (take l.i l.list ≡ joined l.i (λ i. get_or l.values (i * 6 + 5) 0 % 4 ∷ []))

abbrev pub decreases-loop-i : goal.decreases-loop-i
decreases-loop-i l = l.n - l.i
