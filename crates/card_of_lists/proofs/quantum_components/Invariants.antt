-- `card_of_lists::quantum_components` meets its contract. Assumes nothing.
use Prim.Native.Nat.{◌*◌, ◌-◌, ◌≤◌}
use mathlib.Core.Path.{◌≡◌}
use lib.ListN.{length, take}
use Rattle.card.specs.Fields.{joined}
use Rattle.card_of_lists.specs.Cards.{quantum_component}
use Rattle.card_of_lists.proofs.quantum_components.Given as goal

abbrev pub invariant-loop-i : goal.invariant-loop-i
invariant-loop-i l = (l.i ≤ l.l.count) × (length l.values ≡ 204) × (take (l.i * 6) l.values ≡ joined l.i (quantum_component l.l.sigma.now l.l.epsilon_k.now l.l.lr.now l.l.la.now l.l.mass.now l.l.fh.now))

abbrev pub decreases-loop-i : goal.decreases-loop-i
decreases-loop-i l = l.l.count - l.i
