-- `exponential::below` meets its contract. Assumes nothing.
use Prim.Native.Nat.{ℕ, ◌-◌, ◌^◌, ◌<◌}
use native.Mathlib.Nat.{le_of_lt}
use native.Mathlib.Omega.{arith}
use lib.Dec.{lit≤}
use Rattle.exponential.proofs.LargePart.{below_part, below_is}
use Rattle.exponential.proofs.below.Goals as goal

left : {p : ℕ} → p < 2 ^ 63 → 0 < 2 ^ 63 - p
left h = omega arith

pub overflow_sub-part : goal.overflow_sub-part
overflow_sub-part c = le_of_lt (below_part c.args.w c.significand.result c.shift_right-part.result c.requires.1 c.significand.ensures c.shift_right-part.ensures)

pub pack-requires : goal.pack-requires
pack-requires c = (left (below_part c.args.w c.significand.result c.shift_right-part.result c.requires.1 c.significand.ensures c.shift_right-part.ensures), lit≤ tt, lit≤ tt)

pub returns : goal.returns
returns c = below_is _ _ _ _ c.significand.ensures c.shift_right-part.ensures c.pack.ensures
