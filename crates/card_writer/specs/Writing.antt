-- Slips 6 and 11: a card as it is written, by the list of fields that it is read by, and the moves from one form to the other.
use Rattle.std.specs.Prelude.{ℕ, zero, suc, ◌+◌, ◌*◌, ◌-◌, ◌/◌, eqb, leb, length, take, drop, replicate, Bool, true, false, cond, List, [], ◌∷◌, ◌++◌}
use Rattle.number.specs.Ans.{Ans, held, ◌>>=◌, demand}
use Rattle.bit_fields.specs.Bits.{numeral, digits}
use Rattle.card.specs.declared.Field.{Field}
use Rattle.card.specs.Card.{Card, Form, heading, layout, read_card}

-- a number's bits; of a spared field 'one bit: 0 for +0, which is then not stored, 1 for a stored value'
unfoldable pub write_field : Field → ℕ → List Bool
write_field f v = cond f.spared (cond (eqb v 0) (false ∷ []) (true ∷ digits f.width v)) (digits f.width v)

-- one field after the other
unfoldable pub write_fields : List Field → List ℕ → List Bool
write_fields [] l = []
write_fields (f ∷ fs) [] = []
write_fields (f ∷ fs) (v ∷ vs) = write_field f v ++ write_fields fs vs

-- a card's bits: model and count, and its numbers
unfoldable pub card_bits : Form → Card → List Bool
card_bits f c = write_fields heading ((f.first + c.kind) ∷ c.count ∷ []) ++ write_fields (layout f c.kind c.count) c.values

-- as many bytes as n bits take
abbrev pub byte_count : ℕ → ℕ
byte_count n = (n + 7) / 8

-- 'Zero bits fill the last byte.'
unfoldable pub filled : List Bool → List Bool
filled l = l ++ replicate (8 * byte_count (length l) - length l) false

-- k bytes, eight bits each
unfoldable pub bytes_of : ℕ → List Bool → List ℕ
bytes_of zero l = []
bytes_of (suc k) l = numeral (take 8 l) ∷ bytes_of k (drop 8 l)

-- a card in bytes
unfoldable pub card_bytes : Form → Card → List ℕ
card_bytes f c = bytes_of (byte_count (length (card_bits f c))) (filled (card_bits f c))

-- what a call lends: a list for a card, and the length that it is told
pub record CardRoom : Type 0 where
  pub card : List ℕ
  pub length : ℕ

-- 12 if the list is shorter than the card; 'say how many bytes it took; what lies behind them keeps its bits'
unfoldable pub card_stored : List ℕ → CardRoom → Ans CardRoom
card_stored bytes l = demand 12 (leb (length bytes) (length l.card)) >>= λ _. held (record { card = bytes ++ drop (length bytes) l.card; length = length bytes })

-- Slip 11, 'both moves': a card that reads well in the one form, written in the other. 16, 'once the card has read well', for more components than that form holds; 12 'last of all'
unfoldable pub card_moved : Form → Form → List ℕ → CardRoom → Ans CardRoom
card_moved from to card l = read_card from card >>= λ c. demand 16 (leb c.count to.most) >>= λ _. card_stored (card_bytes to c) l
