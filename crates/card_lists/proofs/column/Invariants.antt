-- `card_lists::column` meets its contract. Assumes nothing.
use Prim.Native.Nat.{◌+◌, ◌*◌, ◌-◌, ◌≤◌}
use mathlib.Core.Path.{◌≡◌}
use lib.ListN.{length, take}
use mathlib.Core.List.{[], ◌∷◌}
use Rattle.card_lists.specs.Lists.{number_at}
use Rattle.card.specs.Fields.{joined}
use Rattle.sizes.specs.Sizes.{side}
use Rattle.card_lists.proofs.column.Given as goal

abbrev pub invariant-loop-i : goal.invariant-loop-i
invariant-loop-i l = (l.i ≤ l.n) × (length l.list ≡ side) × (take l.i l.list ≡ joined l.i (λ i. number_at l.values (i * l.size + l.e) ∷ []))

abbrev pub decreases-loop-i : goal.decreases-loop-i
decreases-loop-i l = l.n - l.i
