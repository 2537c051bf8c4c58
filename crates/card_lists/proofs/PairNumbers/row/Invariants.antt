-- `card_lists::PairNumbers::row` meets its contract. Assumes nothing.
use Prim.Native.Nat.{◌+◌, ◌*◌, ◌-◌, ◌≤◌}
use mathlib.Core.Path.{◌≡◌}
use lib.ListN.{length, take}
use mathlib.Core.List.{[], ◌∷◌, ◌++◌}
use Rattle.card_lists.specs.Lists.{pair_entry}
use Rattle.card.specs.Fields.{joined}
use Rattle.sizes.specs.Sizes.{sheet}
use Rattle.card_lists.proofs.PairNumbers.row.Given as goal

abbrev pub invariant-loop-j : goal.invariant-loop-j
invariant-loop-j l = (l.j ≤ l.self.n) × (length l.list ≡ sheet) × (take (l.self.n * l.i + l.j) l.list ≡ take (l.self.n * l.i) l.initial.list ++ joined l.j (λ j. pair_entry l.self.values.now l.self.start l.self.n l.e l.i j ∷ []))

abbrev pub decreases-loop-j : goal.decreases-loop-j
decreases-loop-j l = l.self.n - l.j
