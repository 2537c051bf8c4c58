-- The power: its two stages in fixed point, and its value.
use Rattle.std.specs.Prelude.{false, cond, ℕ, ◌+◌, ◌-◌, ◌*◌, ◌/◌, ◌^◌, leb, ltb, eqb, Float}
use Rattle.std.specs.Bool.{beq}
use Rattle.std.specs.Float.{binary64}
use Rattle.std.specs.Float.Ieee.{to_bits}
use Rattle.number.specs.Ans.{Ans, held, ◌>>=◌, demand}
use Rattle.number.specs.Domain.{base_inside, exponent_inside}
use Rattle.fixed_point.specs.Fields.{exponent_field, significand}
use Rattle.exponential.specs.Raise.{raise_of}
use Rattle.binary_log.specs.BinaryLog.{log_of}
use Rattle.binary_log.specs.declared.Log.{Log}
use Rattle.power.specs.declared.FixedExponent.{FixedExponent}

-- |y| in units of 2 ^ -56, rounded down, from the bits of y
abbrev pub exponent_size : ℕ → ℕ
exponent_size b = significand b * 2048 / 2 ^ (1030 - exponent_field b)

-- an exponent; outside the domain 0
unfoldable pub exponent_of : Float → FixedExponent
exponent_of y =
    let b = to_bits binary64 y in
    cond (exponent_inside y)
    (record { size = exponent_size b; negative = leb (2 ^ 63) b; one = eqb b 0x3ff0_0000_0000_0000 })
    (record { size = 0; negative = false; one = false })

-- the size of the product of a logarithm l and an exponent y by their sizes, in units of 2 ^ -53, rounded down and no more than 1022
abbrev pub product_of : ℕ → ℕ → ℕ
product_of l y = cond (ltb (y * l / 2 ^ 64) (1022 * 2 ^ 53)) (y * l / 2 ^ 64) (1022 * 2 ^ 53)

-- the product plus 1023, in units of 2 ^ -53: above 1023 where the signs are the same
unfoldable pub word_of : Log → FixedExponent → ℕ
word_of l y = cond (beq l.negative y.negative) (1023 * 2 ^ 53 + product_of l.size y.size) (1023 * 2 ^ 53 - product_of l.size y.size)

-- the power of a base by its logarithm: exponent 1 gives the base
unfoldable pub power_of : Log → FixedExponent → Float
power_of l y = cond y.one l.base (raise_of (word_of l y))

-- the power of a base within its domain, by its logarithm: 6 if the exponent is outside
abbrev pub powf_at : Log → Float → Ans Float
powf_at l y = demand 6 (exponent_inside y) >>= λ _. held (power_of l (exponent_of y))

-- '6 if the argument is outside', of both domains
unfoldable pub powf_of : Float → Float → Ans Float
powf_of x y = demand 6 (base_inside x) >>= λ _. powf_at (log_of x) y
