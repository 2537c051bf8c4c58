-- `card_lists::PairNumbers::list` meets its contract. Assumes nothing.
use Prim.Native.Nat.{◌*◌, ◌-◌, ◌≤◌}
use mathlib.Core.Path.{◌≡◌}
use lib.ListN.{length, take}
use mathlib.Core.List.{[], ◌∷◌}
use Rattle.card_lists.specs.Lists.{pair_entry}
use Rattle.card.specs.Fields.{joined}
use Rattle.sizes.specs.Sizes.{sheet}
use Rattle.card_lists.proofs.PairNumbers.list.Given as goal

abbrev pub invariant-loop-i : goal.invariant-loop-i
invariant-loop-i l = (l.i ≤ l.self.n) × (length l.list ≡ sheet) × (take (l.self.n * l.i) l.list ≡ joined l.i (λ i. joined l.self.n (λ j. pair_entry l.self.values.now l.self.start l.self.n l.e i j ∷ [])))

abbrev pub decreases-loop-i : goal.decreases-loop-i
decreases-loop-i l = l.self.n - l.i
