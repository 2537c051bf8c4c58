-- The usual range of a float, where both neighbours are finite and no zero: a condition of helpers alone.
use Rattle.std.specs.Prelude.{◌<◌, T, from_bits, to_bits, Float}
use Rattle.std.specs.Float.{binary64}
use Rattle.std.specs.Float.Ieee.Scale.{finite}

abbrev pub least_normal : Float
least_normal = from_bits binary64 0x0010_0000_0000_0000

abbrev pub largest : Float
largest = from_bits binary64 0x7fef_ffff_ffff_ffff

-- above zero, from its pattern
abbrev pub InsideAbove : Float → Type 0
InsideAbove x = T (finite x) × (0 < to_bits binary64 x) × (to_bits binary64 x < 0x7fef_ffff_ffff_ffff)

-- below zero
abbrev pub InsideBelow : Float → Type 0
InsideBelow x = T (finite x) × (0x8000_0000_0000_0001 < to_bits binary64 x) × (to_bits binary64 x < 0xffef_ffff_ffff_ffff)
