-- A quotient of two numbers of 64 bits in units of 2 ^ -64, by two digits of 32 bits.
use Rattle.std.specs.Prelude.{ℕ, ◌+◌, ◌-◌, ◌*◌, ◌/◌, ◌%◌}

-- n / d from below: each digit is taken with the upper half of d rounded up, and is not corrected (4294967296 is 2 ^ 32)
unfoldable pub quotient : ℕ → ℕ → ℕ
quotient n d =
    let upper = d / 4294967296 in
    let digit = n / (upper + 1) in
    let left = (n - digit * upper) * 4294967296 - digit * (d % 4294967296) in
    digit * 4294967296 + left / (upper + 1)
