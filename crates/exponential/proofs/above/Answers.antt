-- `exponential::above` meets its contract. Assumes nothing.
use Prim.Native.Nat.{ℕ, ◌+◌, ◌-◌, ◌*◌, ◌/◌, ◌^◌, ◌≤◌, ◌<◌}
use native.Mathlib.Nat.{le_of_lt}
use native.Mathlib.Omega.{arith}
use Rattle.exponential.proofs.LargePart.{above_part, above_is}
use Rattle.exponential.proofs.above.Goals as goal

left : {o y : ℕ} → o < y → 0 < y - o
left h = omega arith

low : (w : ℕ) → 1023 * 2 ^ 53 + 2 ^ 46 ≤ w → 64 ≤ w / 2 ^ 53 - 1
low w h = omega arith

high : (w : ℕ) → w < 2046 * 2 ^ 53 → w / 2 ^ 53 - 1 ≤ 2044
high w h = omega arith

pub overflow_sub-significand : goal.overflow_sub-significand
overflow_sub-significand c = le_of_lt (above_part c.args.w c.significand.result c.shift_right-one.result c.requires.0 c.significand.ensures c.shift_right-one.ensures)

pub pack-requires : goal.pack-requires
pack-requires c = (left (above_part c.args.w c.significand.result c.shift_right-one.result c.requires.0 c.significand.ensures c.shift_right-one.ensures), low c.args.w c.requires.0, high c.args.w c.requires.1)

pub returns : goal.returns
returns c = above_is _ _ _ _ c.significand.ensures c.shift_right-one.ensures c.pack.ensures
