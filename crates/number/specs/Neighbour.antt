-- The neighbouring f64, through the bits; and the lesser and the greater of two, and the absolute value.
use Rattle.std.specs.Prelude.{ℕ, ◌+◌, ◌-◌, false, cond, ◌==◌, from_bits, nat_lt, to_bits, Float}
use Rattle.std.specs.Float.{nan, inf, fin, binary64}
use Rattle.std.specs.Float.Ieee.{lt}

-- A pattern is a sign of 2^63 and a magnitude. Up: away from zero above it, towards it below.
-- Document 01: from either zero the neighbour is ±2^−1074, and a step onto zero gives +0.
unfoldable pub step_up : ℕ → ℕ
step_up b = cond (nat_lt b 0x8000_0000_0000_0000) (b + 1) (cond (b == 0x8000_0000_0000_0000) 1 (cond (b == 0x8000_0000_0000_0001) 0 (b - 1)))

unfoldable pub step_down : ℕ → ℕ
step_down b = cond (nat_lt 0x8000_0000_0000_0000 b) (b + 1) (cond (b == 0x8000_0000_0000_0000) 0x8000_0000_0000_0001 (cond (b == 0) 0x8000_0000_0000_0001 (b - 1)))

-- what is not finite has no neighbour, and stays; beyond the largest f64 lies the infinity
unfoldable pub next_up : Float → Float
next_up nan = nan
next_up (inf s) = inf s
next_up (fin s m e) = from_bits binary64 (step_up (to_bits binary64 (fin s m e)))

unfoldable pub next_down : Float → Float
next_down nan = nan
next_down (inf s) = inf s
next_down (fin s m e) = from_bits binary64 (step_down (to_bits binary64 (fin s m e)))

-- the first of the two unless the second is beyond it: which zero is given, and what a NaN gives, follows from that
unfoldable pub least : Float → Float → Float
least x y = cond (lt y x) y x

unfoldable pub greatest : Float → Float → Float
greatest x y = cond (lt x y) y x

-- the absolute value: the sign cleared, a NaN stays one
unfoldable pub absolute : Float → Float
absolute nan = nan
absolute (inf s) = inf false
absolute (fin s m e) = fin false m e
