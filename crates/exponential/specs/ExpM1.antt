-- exp x - 1: near 0 by a quotient of polynomials, elsewhere from the exponential in base 2.
use Rattle.std.specs.Prelude.{Bool, cond, List, [], ◌∷◌, ℕ, ◌+◌, ◌-◌, ◌*◌, ◌/◌, ◌^◌, pos, leb, ltb, Float}
use Rattle.std.specs.Float.{binary64}
use Rattle.std.specs.Float.Ieee.{to_bits, of_int, mul, div}
use Rattle.number.specs.Ans.{Ans, held, refused}
use Rattle.number.specs.Domain.{exp_inside}
use Rattle.fixed_point.specs.Fields.{exponent_field, significand}
use Rattle.fixed_point.specs.Horner.{horner}
use Rattle.fixed_point.specs.Pack.{packed}
use Rattle.exponential.specs.Raise.{significand_of}
use Rattle.exponential.specs.Exp.{binary_exponent_of}

-- of the bits of x the digits, with the leading one at 2 ^ 63
abbrev pub digits_of : ℕ → ℕ
digits_of b = significand b * 2048

-- below 1/4 exp x - 1 is x a / (c - x a / 2) but for a part 2 ^ -53 of it, with a = 15120 + 420 z + z ^ 2, c = 15120 + 1680 z + 15 z ^ 2, z = x ^ 2: Padé's fraction of degree 5. The coefficients, rounded down, with 2 ^ 49 + 1/16 for 1
abbrev pub over_terms : List ℕ
over_terms = 8511803295730238385 ∷ 236438980436951066 ∷ 562949953421312 ∷ []

abbrev pub under_terms : List ℕ
under_terms = 8511803295730238385 ∷ 945755921747804265 ∷ 8444249301319680 ∷ []

-- c - x a / 2, |x| = s / 2 ^ 64 and z = q / 2 ^ 64
unfoldable pub under_of : Bool → ℕ → ℕ → ℕ → ℕ
under_of negative s q a = cond negative (horner under_terms q + s * a / 2 ^ 64 / 2) (horner under_terms q - s * a / 2 ^ 64 / 2)

-- of x and its bits b; both numbers are cut to at most 53 bits, so that they are f64s
unfoldable pub small_of : Float → ℕ → Float
small_of x b =
    let s = digits_of b / 2 ^ (1022 - exponent_field b) in
    let q = s * s / 2 ^ 64 in
    let a = horner over_terms q in
    let d = under_of (leb (2 ^ 63) b) s q a in
    div binary64 (mul binary64 x (of_int binary64 (pos (a / 2048)))) (of_int binary64 (pos (d / 2048)))

-- |x| from 1/4 on: exp x is y 2 ^ (k - 63), k + 1023 the whole part of the exponent w; a negative x gives a number from 1 downward
unfoldable pub below_of : ℕ → Float
below_of w = packed 1 (2 ^ 63 - significand_of w / 2 ^ (1023 - w / 2 ^ 53)) 1022

unfoldable pub above_of : ℕ → Float
above_of w = packed 0 (significand_of w - 2 ^ 63 / 2 ^ (w / 2 ^ 53 - 1023)) (w / 2 ^ 53 - 1)

-- the value for an x that is not tiny
unfoldable pub away_of : Float → Float
away_of x =
    let b = to_bits binary64 x in
    cond (ltb (exponent_field b) 1021) (small_of x b) (cond (leb (2 ^ 63) b) (below_of (binary_exponent_of x)) (above_of (binary_exponent_of x)))

-- exp x - 1; below 2 ^ -54 in size it is x, either zero included
unfoldable pub exp_m1_of : Float → Ans Float
exp_m1_of x = cond (exp_inside x) (held (cond (ltb (exponent_field (to_bits binary64 x)) 969) x (away_of x))) (refused 6)
