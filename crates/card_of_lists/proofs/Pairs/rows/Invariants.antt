-- `card_of_lists::Pairs::rows` meets its contract. Assumes nothing.
use Prim.Native.Nat.{◌+◌, ◌*◌, ◌-◌, ◌≤◌}
use mathlib.Core.Path.{◌≡◌}
use mathlib.Core.List.{◌++◌}
use lib.ListN.{length, take}
use Rattle.card.specs.Fields.{joined}
use Rattle.card_lists.specs.Lists.{pairs_before}
use Rattle.card_of_lists.specs.Cards.{pair_row}
use Rattle.card_of_lists.proofs.Pairs.rows.Given as goal

abbrev pub invariant-loop-i : goal.invariant-loop-i
invariant-loop-i l = (l.i ≤ l.self.n) × (length l.values ≡ 204) × (take (l.start + 2 * pairs_before l.self.n l.i) l.values ≡ take l.start l.initial.values ++ joined l.i (pair_row l.self.n l.self.k.now l.self.second.now))

abbrev pub decreases-loop-i : goal.decreases-loop-i
decreases-loop-i l = l.self.n - l.i
