-- The binary logarithm of a base: its value, in fixed point.
use Rattle.std.specs.Prelude.{true, false, cond, ℕ, ◌+◌, ◌-◌, ◌*◌, ◌/◌, ◌^◌, leb, get_or, Float}
use Rattle.std.specs.Float.{binary64}
use Rattle.std.specs.Float.Ieee.{to_bits}
use Rattle.number.specs.Domain.{base_inside}
use Rattle.fixed_point.specs.Fields.{significand}
use Rattle.fixed_point.specs.Horner.{horner}
use Rattle.binary_log.specs.Tables.{log_factors, logs, odd_terms, even_terms}
use Rattle.binary_log.specs.declared.Log.{Log}

-- minus log2 (1 - r) by eight terms in units of 2 ^ -61, at d = r 2 ^ 70: even and odd ones apart
abbrev pub eight_terms : ℕ → ℕ
eight_terms d = d * (horner odd_terms (d * d / 2 ^ 64) + horner even_terms (d * d / 2 ^ 64) * d / 2 ^ 64) / 2 ^ 64 / 256

-- of a significand m of 53 bits: its upper 7 bits after the leading one, and 1 - m c in units of 2 ^ -70, c the factor there
abbrev pub place_of : ℕ → ℕ
place_of m = m / 2 ^ 45 - 128

abbrev pub gap_of : ℕ → ℕ
gap_of m = (2 ^ 63 - get_or log_factors (place_of m) 0 * m) * 128

-- log2 (m / 2 ^ 52) in units of 2 ^ -61
abbrev pub significand_log : ℕ → ℕ
significand_log m = get_or logs (place_of m) 0 - eight_terms (gap_of m)

-- the logarithm of a base, from the exponent's field and the significand of its bits; outside the domain that of 1
unfoldable pub log_of : Float → Log
log_of x =
    let b = to_bits binary64 x in
    let field = b / 2 ^ 52 in
    let log = significand_log (significand b) in
    cond (base_inside x)
    (cond (leb 1023 field)
    (record { base = x; size = (field - 1023) * 2 ^ 61 + log; negative = false })
    (record { base = x; size = (1023 - field) * 2 ^ 61 - log; negative = true }))
    (record { base = x; size = 0; negative = false })
