-- Slip 2's 'small card of bits, most significant first': a number as its digits, and bytes as bits.
use Rattle.std.specs.Prelude.{ℕ, zero, suc, ◌+◌, ◌*◌, ◌/◌, ◌%◌, ◌^◌, ◌<◌, ◌≤◌, eqb, length, take, drop, Bool, cond, List, [], ◌∷◌, ◌++◌}

-- the number that bits stand for
unfoldable pub numeral : List Bool → ℕ
numeral [] = 0
numeral (b ∷ l) = cond b 1 0 * 2 ^ length l + numeral l

-- the w lowest binary digits of v
unfoldable pub digits : ℕ → ℕ → List Bool
digits zero v = []
digits (suc w) v = eqb (v / 2 ^ w % 2) 1 ∷ digits w v

-- the bits of bytes, one byte after the other
unfoldable pub bits_of : List ℕ → List Bool
bits_of [] = []
bits_of (b ∷ l) = digits 8 b ++ bits_of l

-- a field of at most 64 bits, which the bytes reach to; positions are below 2^32
abbrev pub Reached : List ℕ → ℕ → ℕ → Type 0
Reached l at width = (at + width ≤ 8 * length l) × (width ≤ 64) × (at < 2 ^ 32)

-- bits in place of those that were there from a position on
unfoldable pub over : ℕ → List Bool → List Bool → List Bool
over at new l = take at l ++ (new ++ drop (at + length new) l)
