-- tanh x = (exp 2x - 1) / (exp 2x + 1), from the exponential in base 2 of 2x.
use Rattle.std.specs.Prelude.{cond, ℕ, ◌+◌, ◌-◌, ◌/◌, ◌^◌, pos, ltb, Float}
use Rattle.std.specs.Float.{binary64}
use Rattle.std.specs.Float.Ieee.{to_bits, of_int, add, sub, div}
use Rattle.number.specs.Ans.{Ans, held, refused}
use Rattle.number.specs.Domain.{tanh_inside}
use Rattle.exponential.specs.Raise.{significand_of}
use Rattle.exponential.specs.Exp.{exponent_at}
use Rattle.fixed_point.specs.Fields.{exponent_field}

-- exp 2x and 1 in one unit, whole numbers of at most 52 bits: exp 2x is y 2 ^ (k - 63), k + 1023 the whole part of the exponent w of 2x. For a k below 0 y is moved, for one above 0 the 1 (a difference of natural numbers is 0 where the second is larger)
abbrev pub exp_part : ℕ → ℕ
exp_part w = significand_of w / 2 ^ (1023 - w / 2 ^ 53) / 4096

abbrev pub one_part : ℕ → ℕ
one_part w = 2 ^ 63 / 2 ^ (w / 2 ^ 53 - 1023) / 4096

-- (e - 1) / (e + 1) in f64, the difference and the sum being exact
unfoldable pub tanh_ratio_of : ℕ → Float
tanh_ratio_of w =
    let e = of_int binary64 (pos (exp_part w)) in
    let one = of_int binary64 (pos (one_part w)) in
    div binary64 (sub binary64 e one) (add binary64 e one)

-- tanh x; below 2 ^ -17 in size it is x, either zero included. The bits of 2x have 1 more in the exponent's field
unfoldable pub tanh_of : Float → Ans Float
tanh_of x = cond (tanh_inside x) (held (cond (ltb (exponent_field (to_bits binary64 x)) 1006) x (tanh_ratio_of (exponent_at (to_bits binary64 x + 2 ^ 52))))) (refused 6)
