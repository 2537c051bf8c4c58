-- From a number in fixed point to an f64.
use Rattle.std.specs.Prelude.{ℕ, ◌+◌, ◌-◌, ◌*◌, ◌/◌, ◌^◌, Float}
use Rattle.std.specs.Int.Count.{count_leading_zeros}
use Rattle.std.specs.Float.{binary64}
use Rattle.std.specs.Float.Ieee.{of_bits}

-- the f64 nearest to y * 2 ^ (e - 1085), with a minus where s is 1: y, moved up until its highest bit is that of 2 ^ 63, is rounded to 53 bits,
-- which stand for the digits below an exponent's field; a carry out of them runs into the field
unfoldable pub packed : ℕ → ℕ → ℕ → Float
packed s y e =
    let l = count_leading_zeros 64 y in
    of_bits binary64 (s * 2 ^ 63 + (e - l) * 2 ^ 52 + (y * 2 ^ l / 1024 + 1) / 2)
