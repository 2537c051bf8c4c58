-- The words of a record.
use Rattle.std.specs.Prelude.{ℕ, ◌*◌, List, take, drop}
use Rattle.std.specs.Int.{w64, from_le_bytes}

-- the eight bytes at 8 * k as a number, least significant byte first
abbrev pub word_at : List ℕ → ℕ → ℕ
word_at bytes k = from_le_bytes w64 (take 8 (drop (8 * k) bytes))
