-- The exponential in base 2, of an exponent in fixed point: w / 2 ^ 53 is the exponent plus 1023.
use Rattle.std.specs.Prelude.{ℕ, ◌+◌, ◌-◌, ◌*◌, ◌/◌, ◌%◌, ◌^◌, get_or, Float}
use Rattle.std.specs.Float.{binary64}
use Rattle.std.specs.Float.Ieee.{of_bits}
use Rattle.fixed_point.specs.Horner.{horner}
use Rattle.exponential.specs.Powers.{powers, terms}

-- 2 ^ 63 times 2 to the fraction's part: the fraction's upper 7 of 53 bits choose a power from the table; the series of 2 ^ f - 1 at the lower 46 gives the rest
unfoldable pub significand_of : ℕ → ℕ
significand_of w =
    let power = get_or powers (w / 2 ^ 46 % 128) 0 in
    let low = w % 2 ^ 46 * 2 ^ 18 in
    power + power * (low * horner terms low / 2 ^ 64) / 2 ^ 64 / 128

-- the f64 next to it, its exponent's field being the whole part
unfoldable pub raise_of : ℕ → Float
raise_of w = of_bits binary64 ((w / 2 ^ 53 - 1) * 2 ^ 52 + (significand_of w / 1024 + 1) / 2)
