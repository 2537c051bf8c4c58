-- The logarithm as it is worked, in fixed point on whole numbers; `proofs/` shows how near it comes to document 01's brackets.
use Rattle.std.specs.Prelude.{cond, List, [], ◌∷◌, ℕ, ◌+◌, ◌-◌, ◌*◌, ◌/◌, ◌^◌, ltb, eqb, Float}
use Rattle.std.specs.Int.Count.{count_leading_zeros}
use Rattle.std.specs.Float.{binary64}
use Rattle.std.specs.Float.Ieee.{of_bits, to_bits}
use Rattle.number.specs.Ans.{Ans, held, refused}
use Rattle.number.specs.Domain.{ln_inside, ln1p_inside}
use Rattle.fixed_point.specs.Fields.{exponent_field, significand}
use Rattle.fixed_point.specs.Horner.{horner}
use Rattle.fixed_point.specs.Quotient.{quotient}
use Rattle.fixed_point.specs.Pack.{packed}

-- 2 ^ 63 / (2 i + 1), rounded down, for i below 11
abbrev pub coefficients : List ℕ
coefficients =
    9223372036854775808 ∷ 3074457345618258602 ∷ 1844674407370955161 ∷ 1317624576693539401 ∷ 1024819115206086200 ∷ 838488366986797800 ∷ 709490156681136600
    ∷ 614891469123651720 ∷ 542551296285575047 ∷ 485440633518672410 ∷ 439208192231179800 ∷ []

-- the sum of z ^ (2 i + 1) / (2 i + 1) at z = n / (d * 2 ^ sh), in units of 2 ^ -(63 + sh)
unfoldable pub core : ℕ → ℕ → ℕ → ℕ
core n d sh = quotient n d * horner coefficients (quotient n d / 2 ^ sh * (quotient n d / 2 ^ sh) / 2 ^ 64) / 2 ^ 64

-- k ln 2 in units of 2 ^ -54, ln 2 being taken to 2 ^ -108
unfoldable pub multiple : ℕ → ℕ
multiple k = k * 12486629536330718 + k * 7525737178955839 / 2 ^ 54

-- k ln 2 plus r / 2 ^ (62 + sh), the one negative where g is 1, the other where s is; the first is the larger
unfoldable pub far : ℕ → ℕ → ℕ → ℕ → ℕ → Float
far g k s r sh = cond (eqb s g) (packed g (multiple k + r / 2 ^ (sh + 8)) 1031) (packed g (multiple k - r / 2 ^ (sh + 8)) 1031)

-- (k - 1023) ln 2 plus r / 2 ^ (62 + sh), the latter negative where s is 1
unfoldable pub join : ℕ → ℕ → ℕ → ℕ → Float
join k s r sh =
    cond (eqb k 1023)
    (cond (eqb r 0) (of_bits binary64 0) (packed s r (1023 - sh)))
    (cond (ltb k 1023) (far 1 (1023 - k) s r sh) (far 0 (k - 1023) s r sh))

-- the logarithm of 2 ^ (k - 1023) w, where n / d is the size of z = (w - 1) / (w + 1) and s is 1 for a w below 1; n is moved up to 2 ^ 60 or more
unfoldable pub signed : ℕ → ℕ → ℕ → ℕ → Float
signed k s n d = join k s (core (n * 2 ^ (count_leading_zeros 64 n - 3)) d (count_leading_zeros 64 n - 3)) (count_leading_zeros 64 n - 3)

-- the logarithm of 2 ^ (k - 1023) m, m from 1 up to 2 in units of 2 ^ -63: below 4/3 w is m, from there on m / 2, which is below 1
-- (12297829382473034411 is 4/3 in units of 2 ^ -63, rounded up; 4611686018427387904 is 1 in units of 2 ^ -62, those of w)
unfoldable pub reduced : ℕ → ℕ → Float
reduced k m =
    cond (ltb m 12297829382473034411)
    (signed k 0 (m / 2 - 4611686018427387904) (m / 2 + 4611686018427387904))
    (signed (k + 1) 1 (4611686018427387904 - m / 4) (m / 4 + 4611686018427387904))

-- the logarithm of a positive normal number by its bits: the exponent's field and the significand
unfoldable pub ln_bits : ℕ → Float
ln_bits b = reduced (exponent_field b) (significand b * 2048)

-- `ln`: 6 outside
unfoldable pub ln_of : Float → Ans Float
ln_of x = cond (ln_inside x) (held (ln_bits (to_bits binary64 x))) (refused 6)

-- ---- `ln_1p`, at v with the sign s (1 for a minus), the exponent's field f and the significand m, so |v| = m * 2 ^ (f - 1075)

-- |v| < 1/4: w = 1 + v and z = v / (2 + v), 2 + v in units of 2 ^ -62
unfoldable pub small1p : ℕ → ℕ → ℕ → Float
small1p s f m =
    let d = cond (eqb s 1) (9223372036854775808 - m * 256 / 2 ^ (1021 - f)) (9223372036854775808 + m * 256 / 2 ^ (1021 - f)) in
    join 1023 s (core (m * 256) d (1021 - f)) (1021 - f)

-- else: 1 + v in units of v's last place is the whole number y, which is moved up to 2 ^ 63 or more
unfoldable pub moved1p : ℕ → ℕ → Float
moved1p f y = reduced (f + 11 - count_leading_zeros 64 y) (y * 2 ^ count_leading_zeros 64 y)

unfoldable pub large1p : ℕ → ℕ → ℕ → Float
large1p s f m = cond (eqb s 1) (moved1p f (2 ^ (1075 - f) - m)) (moved1p f (2 ^ (1075 - f) + m))

unfoldable pub bits1p : ℕ → Float
bits1p b =
    let f = exponent_field b in
    let m = significand b in
    cond (ltb f 1021) (small1p (b / 2 ^ 63) f m) (large1p (b / 2 ^ 63) f m)

-- a v below 2 ^ -54 in size, either zero with it, is its own answer
unfoldable pub value1p : Float → Float
value1p v = cond (ltb (exponent_field (to_bits binary64 v)) 969) v (bits1p (to_bits binary64 v))

-- `ln_1p`: 6 outside
unfoldable pub ln1p_of : Float → Ans Float
ln1p_of v = cond (ln1p_inside v) (held (value1p v)) (refused 6)
