-- A card as a list of fields: reading follows from the list alone. Numbers are patterns, below 2 to the field's width.
use Rattle.std.specs.Prelude.{ℕ, zero, suc, ◌<◌, ◌≤◌, eqb, leb, length, take, drop, Bool, not, cond, List, [], ◌∷◌, ◌++◌}
use Rattle.number.specs.Ans.{Ans, held, ◌>>=◌, demand}
use Rattle.bit_fields.specs.Bits.{numeral}
use Rattle.card.specs.declared.Field.{Field}

-- f 0, then f 1, up to f (n - 1)
unfoldable pub joined : {S : Type 0} → ℕ → (ℕ → List S) → List S
joined zero f = []
joined (suc n) f = joined n f ++ f n

-- a field's width: some bits, and no more than a pattern has
abbrev pub IsWidth : ℕ → Type 0
IsWidth width = (0 < width) × (width ≤ 64)

-- a field's number, and the bits behind it
pub record Read : Type 0 where
  pub value : ℕ
  pub rest : List Bool

-- 9: 'a card too short for the field in hand'
unfoldable pub read_plain : ℕ → List Bool → Ans Read
read_plain width l = demand 9 (leb width (length l)) >>= λ _. held (record { value = numeral (take width l); rest = drop width l })

-- one bit first: 0 for a number 0, which is then not stored, 1 for a stored one, which is not 0
unfoldable pub read_spared : ℕ → List Bool → Ans Read
read_spared width l =
    read_plain 1 l >>= λ flag.
    cond (eqb flag.value 0) (held flag)
    (read_plain width flag.rest >>= λ r. demand 15 (not (eqb r.value 0)) >>= λ _. held r)

unfoldable pub read_field : Field → List Bool → Ans Read
read_field f l = cond f.spared (read_spared f.width l) (read_plain f.width l)

-- the numbers of all fields, and the bits behind them
pub record Numbers : Type 0 where
  pub values : List ℕ
  pub rest : List Bool

unfoldable pub read_fields : List Field → List Bool → Ans Numbers
read_fields [] l = held (record { values = []; rest = l })
read_fields (f ∷ fs) l =
    read_field f l >>= λ r.
    read_fields fs r.rest >>= λ b.
    held (record { values = r.value ∷ b.values; rest = b.rest })
