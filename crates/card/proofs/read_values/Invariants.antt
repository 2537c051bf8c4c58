-- `card::read_values` meets its contract. Assumes nothing.
use Prim.Native.Nat.{◌+◌, ◌*◌, ◌-◌, ◌≤◌}
use mathlib.Core.Path.{◌≡◌}
use lib.ListN.{length, drop}
use Rattle.card.proofs.Reading.{On}
use Rattle.card.specs.Card.{form_of, is_newer, number_of, layout}
use Rattle.bit_fields.specs.Bits.{bits_of}
use Rattle.card.proofs.read_values.Given as goal

abbrev pub invariant-loop-k : goal.invariant-loop-k
invariant-loop-k l = (l.k ≤ l.total) × (l.end ≤ l.at + 65 * l.k) × (length l.values ≡ 204) × On (layout (form_of (is_newer l.head.form)) (number_of l.head.kind) l.head.count) (drop l.at (bits_of l.card)) l.card l.values l.end l.k

abbrev pub decreases-loop-k : goal.decreases-loop-k
decreases-loop-k l = l.total - l.k
