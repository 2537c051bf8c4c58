-- The fields of an f64's bits.
use Rattle.std.specs.Prelude.{ℕ, ◌+◌, ◌/◌, ◌%◌, ◌^◌}

-- the exponent's field, which is the exponent plus 1023
abbrev pub exponent_field : ℕ → ℕ
exponent_field b = b / 2 ^ 52 % 2048

-- of a normal number the significand in units of 2 ^ -52, with the leading digit, which is not stored
abbrev pub significand : ℕ → ℕ
significand b = b % 2 ^ 52 + 2 ^ 52
