-- `card_writer::card_length` meets its contract. Assumes nothing.
use Prim.Native.Nat.{◌+◌, ◌*◌, ◌-◌, ◌≤◌}
use mathlib.Core.Path.{◌≡◌}
use lib.ListN.{length}
use Rattle.card.specs.Card.{form_of, is_newer, number_of, layout}
use Rattle.card_writer.proofs.Writing.{part}
use Rattle.card_writer.proofs.card_length.Given as goal

abbrev pub invariant-loop-k : goal.invariant-loop-k
invariant-loop-k l = (l.k ≤ length l.values) × (l.bits ≡ 6 + length (part (layout (form_of (is_newer l.head.form)) (number_of l.head.kind) l.head.count) l.values l.k)) × (l.bits ≤ 6 + 65 * l.k)

abbrev pub decreases-loop-k : goal.decreases-loop-k
decreases-loop-k l = length l.values - l.k
