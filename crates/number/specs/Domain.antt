-- Where the elementary functions have a value: document 01's domains, which the statements and the algorithms' definitions import. The square root's stands in `SqrtAt` (elementary/specs/Promised).
use Rattle.std.specs.Prelude.{Bool, ◌&&◌, from_bits, Float}
use Rattle.std.specs.Float.{binary64}
use Rattle.std.specs.Float.Ieee.{neg, lt, le}

-- 'Logarithm: positive, normal, finite': from 2 ^ -1022 to the largest f64
abbrev pub ln_inside : Float → Bool
ln_inside x = le (from_bits binary64 0x0010_0000_0000_0000) x && le x (from_bits binary64 0x7fef_ffff_ffff_ffff)

-- '`ln_1p`: above −1, at most 2^20'
abbrev pub ln1p_inside : Float → Bool
ln1p_inside v = lt (neg (from_bits binary64 0x3ff0_0000_0000_0000)) v && le v (from_bits binary64 0x4130_0000_0000_0000)

-- '`exp` and `exp_m1`: −700 to 700. .. Ends belong, NaN never'
unfoldable pub exp_inside : Float → Bool
exp_inside x = le (neg (from_bits binary64 0x4085_e000_0000_0000)) x && le x (from_bits binary64 0x4085_e000_0000_0000)

-- '`tanh`: −350 to 350. .. Ends belong, NaN never'
unfoldable pub tanh_inside : Float → Bool
tanh_inside x = le (neg (from_bits binary64 0x4075_e000_0000_0000)) x && le x (from_bits binary64 0x4075_e000_0000_0000)

-- 'Power: base 1/32 to 32, .. Ends belong, NaN never'
unfoldable pub base_inside : Float → Bool
base_inside x = le (from_bits binary64 0x3fa0_0000_0000_0000) x && le x (from_bits binary64 0x4040_0000_0000_0000)

-- 'Power: .. exponent −192 to 192. Ends belong, NaN never'
unfoldable pub exponent_inside : Float → Bool
exponent_inside y = le (neg (from_bits binary64 0x4068_0000_0000_0000)) y && le y (from_bits binary64 0x4068_0000_0000_0000)
