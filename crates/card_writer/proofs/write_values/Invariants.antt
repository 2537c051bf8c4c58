-- `card_writer::write_values` meets its contract. Assumes nothing.
use Prim.Native.Nat.{◌+◌, ◌*◌, ◌-◌, ◌≤◌}
use mathlib.Core.Path.{◌≡◌}
use lib.ListN.{length}
use Rattle.bit_fields.specs.Bits.{bits_of, over}
use Rattle.card.specs.Card.{form_of, is_newer, number_of, layout}
use Rattle.card_writer.proofs.Writing.{part}
use Rattle.card_writer.proofs.write_values.Given as goal

abbrev pub invariant-loop-k : goal.invariant-loop-k
invariant-loop-k l = (l.k ≤ length l.values) × (length l.card ≡ length l.initial.card) × (l.end ≡ 6 + length (part (layout (form_of (is_newer l.head.form)) (number_of l.head.kind) l.head.count) l.values l.k)) × (bits_of l.card ≡ over 6 (part (layout (form_of (is_newer l.head.form)) (number_of l.head.kind) l.head.count) l.values l.k) (bits_of l.initial.card)) × (l.end ≤ 6 + 65 * l.k)

abbrev pub decreases-loop-k : goal.decreases-loop-k
decreases-loop-k l = length l.values - l.k
