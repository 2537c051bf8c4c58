-- The exponential: its value.
use Rattle.std.specs.Prelude.{cond, ℕ, ◌+◌, ◌-◌, ◌*◌, ◌/◌, ◌^◌, leb, Float}
use Rattle.std.specs.Float.{binary64}
use Rattle.std.specs.Float.Ieee.{to_bits}
use Rattle.number.specs.Ans.{Ans, held, refused}
use Rattle.number.specs.Domain.{exp_inside}
use Rattle.fixed_point.specs.Fields.{exponent_field, significand}
use Rattle.exponential.specs.Raise.{raise_of}

-- |x| in units of 2 ^ -54, rounded down, from the bits of x
abbrev pub argument_size : ℕ → ℕ
argument_size b = significand b * 2048 / 2 ^ (1032 - exponent_field b)

-- |x| over ln 2 in units of 2 ^ -53, rounded down: 13306513097844322491 is 2 ^ 63 / ln 2, rounded down
abbrev pub binary_of : ℕ → ℕ
binary_of b = argument_size b * 13306513097844322491 / 2 ^ 64

-- x / ln 2 plus 1023, in units of 2 ^ -53: the bits are 2 ^ 63 or above for a negative x
unfoldable pub exponent_at : ℕ → ℕ
exponent_at b = cond (leb (2 ^ 63) b) (1023 * 2 ^ 53 - binary_of b) (1023 * 2 ^ 53 + binary_of b)

unfoldable pub binary_exponent_of : Float → ℕ
binary_exponent_of x = exponent_at (to_bits binary64 x)

-- exp x
unfoldable pub exp_of : Float → Ans Float
exp_of x = cond (exp_inside x) (held (raise_of (binary_exponent_of x))) (refused 6)
