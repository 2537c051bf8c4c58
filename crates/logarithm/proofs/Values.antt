-- The values that document 01 names, from the definitions. Assumes nothing.
use mathlib.Core.Path.{◌≡◌, refl}
use lib.Ieee.{binary64, of_bits, to_bits, neg, lt, le}
use lib.Count.{count_leading_zeros}
use Rattle.number.specs.Ans.{held, refused}
use Rattle.fixed_point.specs.Horner.{horner}
use Rattle.fixed_point.specs.Quotient.{quotient}
use Rattle.logarithm.specs.Logarithm.{core, join, signed, reduced, ln_bits, ln_of, value1p, ln1p_of}

-- ln 1 is +0
pub ln_one : ln_of (of_bits binary64 0x3ff0_0000_0000_0000) ≡ held (of_bits binary64 0)
unfolding ln_of ln_bits reduced signed join core quotient horner count_leading_zeros le to_bits of_bits
ln_one = refl

-- the largest subnormal number and both zeros are outside
pub ln_subnormal : ln_of (of_bits binary64 0x000f_ffff_ffff_ffff) ≡ refused 6
unfolding ln_of le of_bits
ln_subnormal = refl

-- '`ln_1p`, .. of ±0 give the argument'
pub ln_1p_zero : ln1p_of (of_bits binary64 0) ≡ held (of_bits binary64 0)
unfolding ln1p_of value1p lt le to_bits of_bits neg
ln_1p_zero = refl

pub ln_1p_minus_zero : ln1p_of (of_bits binary64 0x8000_0000_0000_0000) ≡ held (of_bits binary64 0x8000_0000_0000_0000)
unfolding ln1p_of value1p lt le to_bits of_bits neg
ln_1p_minus_zero = refl

-- '`ln_1p` of −1 gives 6'
pub ln_1p_minus_one : ln1p_of (neg (of_bits binary64 0x3ff0_0000_0000_0000)) ≡ refused 6
unfolding ln1p_of lt of_bits neg
ln_1p_minus_one = refl
