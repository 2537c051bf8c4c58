-- `card_of_lists::Pairs::row` meets its contract. Assumes nothing.
use Prim.Native.Nat.{◌+◌, ◌*◌, ◌-◌, ◌≤◌}
use mathlib.Core.Path.{◌≡◌}
use mathlib.Core.List.{[], ◌∷◌, ◌++◌}
use lib.ListN.{length, take}
use Rattle.limits.specs.Limits.{square}
use Rattle.card.specs.Fields.{joined}
use Rattle.card_of_lists.specs.Cards.{pattern}
use Rattle.card_of_lists.proofs.Pairs.row.Given as goal

abbrev pub invariant-loop-j : goal.invariant-loop-j
invariant-loop-j l = (l.i + 1 ≤ l.j) × (l.j ≤ l.self.n) × (length l.values ≡ 204) × (take (l.at + 2 * (l.j - l.i - 1)) l.values ≡ take l.at l.initial.values ++ joined (l.j - l.i - 1) (λ d. pattern (square l.self.n l.self.k.now l.i (l.i + 1 + d)) ∷ pattern (square l.self.n l.self.second.now l.i (l.i + 1 + d)) ∷ []))

abbrev pub decreases-loop-j : goal.decreases-loop-j
decreases-loop-j l = l.self.n - l.j
