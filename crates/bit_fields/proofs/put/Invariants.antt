-- `bit_fields::put` meets its contract. Assumes nothing.
use Prim.Native.Nat.{◌/◌, ◌-◌, ◌^◌, ◌≤◌}
use mathlib.Core.Path.{◌≡◌}
use lib.ListN.{length}
use Rattle.bit_fields.specs.Bits.{digits, bits_of, over}
use Rattle.bit_fields.proofs.put.Given as goal

abbrev pub invariant-loop-left : goal.invariant-loop-left
invariant-loop-left l = (l.left ≤ l.width) × (length l.l ≡ length l.initial.l) × (bits_of l.l ≡ over l.at (digits (l.width - l.left) (l.value / 2 ^ l.left)) (bits_of l.initial.l))

abbrev pub decreases-loop-left : goal.decreases-loop-left
decreases-loop-left l = l.left
