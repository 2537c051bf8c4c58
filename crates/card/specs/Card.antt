-- Slip 2's fuel card: its fields, and what reading it gives.
use Rattle.std.specs.Prelude.{◌≡◌, ◌≤◌, ℕ, ◌+◌, ◌*◌, ◌-◌, eqb, leb, ltb, length, get_or, take, drop, replicate, Bool, true, false, ◌&&◌, cond, List, [], ◌∷◌, ◌++◌, Err, Ok, Result}
use Rattle.number.specs.declared.refusal.Refusal.{Refusal}
use Rattle.number.specs.Answer.{code}
use Rattle.card.specs.declared.Heading.{Heading}
use Rattle.card.specs.declared.Form.{Form as CardForm}
use Rattle.card.specs.declared.Form.TheVariants.{Older, Newer}
use Rattle.card.specs.declared.Kind.{Kind}
use Rattle.card.specs.declared.Kind.TheVariants.{Quantum, Mie}
use Rattle.card.specs.declared.FieldValue.{FieldValue}
use Rattle.number.specs.Ans.{Ans, held, refused, ◌>>=◌, demand}
use Rattle.bit_fields.specs.Bits.{numeral, bits_of}
use Rattle.card.specs.Fields.{joined, Read, Numbers, read_fields}
use Rattle.card.specs.declared.Field.{Field}

-- what tells one form of card from another: the model's number of the quantum model (VR Mie's is one more), the most components, and whether a pair's +0 is spared
pub record Form : Type 0 where
  pub first : ℕ
  pub most : ℕ
  pub spared : Bool

-- 'Two bits of model (0 quantum, 1 VR Mie)', 'a count outside 1 to 8'; a limit of the card's own, not the side of a sheet
abbrev pub older : Form
older = record { first = 0; most = 8; spared = false }

-- Slip 11: 'a count of 1 to 12'
abbrev pub most_components : ℕ
most_components = 12

-- Slip 11: 'model 2 for quantum and 3 for VR Mie', 'before each of a pair's two values one bit'
abbrev pub newer_form : Form
newer_form = record { first = 2; most = 12; spared = true }

abbrev pub form_of : Bool → Form
form_of newer = cond newer newer_form older

-- of a form in the code, whether it is the newer one
abbrev pub is_newer : CardForm → Bool
is_newer Older = false
is_newer Newer = true

-- ---- the fields. A card's kind is 0 for quantum, 1 for VR Mie.

-- 'Two bits of model .., four bits of count'
abbrev pub heading : List Field
heading = record { width = 2; spared = false } ∷ record { width = 4; spared = false } ∷ []

abbrev pub float : Field
float = record { width = 64; spared = false }

-- 'sigma, epsilon_k, lr, la, mass as 64-bit floats and a 2-bit order, or for VR Mie m, sigma, epsilon_k, lr, la'
unfoldable pub component : ℕ → List Field
component kind = cond (eqb kind 0) (float ∷ float ∷ float ∷ float ∷ float ∷ record { width = 2; spared = false } ∷ []) (float ∷ float ∷ float ∷ float ∷ float ∷ [])

-- how many numbers a component has
abbrev pub size : ℕ → ℕ
size kind = cond (eqb kind 0) 6 5

-- a pair's number: k, l or gamma
abbrev pub pair_value : Form → Field
pair_value f = record { width = 64; spared = f.spared }

-- 'for each component'; 'Then for each pair i < j, row by row, two 64-bit floats': n · (n − 1) of them
unfoldable pub layout : Form → ℕ → ℕ → List Field
layout f kind n = joined n (λ _. component kind) ++ replicate (n * (n - 1)) (pair_value f)

-- how many numbers a card has behind its heading
abbrev pub value_count : ℕ → ℕ → ℕ
value_count kind n = n * size kind + n * (n - 1)

-- the most numbers of any card: twelve components of the quantum model, six each, and two for each pair
abbrev pub most_values : ℕ
most_values = 204

-- ---- reading

-- what a card says: the fluid's kind, the count and the numbers in their order
pub record Card : Type 0 where
  pub kind : ℕ
  pub count : ℕ
  pub values : List ℕ

-- 10: 'a model above 1 or a count outside 1 to 8'
unfoldable pub known : Form → ℕ → ℕ → Bool
known f model count = leb f.first model && leb model (f.first + 1) && leb 1 count && leb count f.most

-- 11: 'a filling bit that is 1 or bytes left over'
unfoldable pub filling : List Bool → Bool
filling l = ltb (length l) 8 && eqb (numeral l) 0

-- '(tested once both fields are in)', 'after all else on the card'
unfoldable pub read_card : Form → List ℕ → Ans Card
read_card f l =
    read_fields heading (bits_of l) >>= λ h.
    let model = get_or h.values 0 0 in
    let count = get_or h.values 1 0 in
    demand 10 (known f model count) >>= λ _.
    read_fields (layout f (model - f.first) count) h.rest >>= λ b.
    demand 11 (filling b.rest) >>= λ _.
    held (record { kind = model - f.first; count = count; values = b.values })

-- ---- the slips' number or values of each case of the answers: positions in the bits of a card l, numbers in an array

-- 'model (0 quantum, 1 VR Mie)'
abbrev pub number_of : Kind → ℕ
number_of Quantum = 0
number_of Mie = 1

-- the kind of which a number's fields are
abbrev pub kind_of : ℕ → Kind
kind_of n = cond (eqb n 0) Quantum Mie

-- of a heading: its fields, how many they are, that its count is within the limits, and that these are its numbers
abbrev pub fields_of : Heading → List Field
fields_of h = layout (form_of (is_newer h.form)) (number_of h.kind) h.count

abbrev pub total_of : Heading → ℕ
total_of h = value_count (number_of h.kind) h.count

abbrev pub Within : Heading → Type 0
Within h = (1 ≤ h.count) × (h.count ≤ most_components)

abbrev pub Complete : Heading → List ℕ → Type 0
Complete h values = (1 ≤ h.count) × (h.count ≤ most_components) × (length values ≡ total_of h)

abbrev pub field_answer : List ℕ → Result FieldValue Refusal → Ans Read
field_answer l (Ok v) = held (record { value = v.value; rest = drop v.end (bits_of l) })
field_answer l (Err r) = refused (code r)

-- where the next field begins
abbrev pub end_of : Result FieldValue Refusal → ℕ
end_of (Ok v) = v.end
end_of (Err r) = 0

abbrev pub end_answer : List ℕ → ℕ → List ℕ → Result ℕ Refusal → Ans Numbers
end_answer l total values (Ok e) = held (record { values = take total values; rest = drop e (bits_of l) })
end_answer l total values (Err r) = refused (code r)

abbrev pub reach_of : Result ℕ Refusal → ℕ
reach_of (Ok e) = e
reach_of (Err r) = 0

abbrev pub card_answer : List ℕ → Result Heading Refusal → Ans Card
card_answer values (Ok c) = held (record { kind = number_of c.kind; count = c.count; values = take (total_of c) values })
card_answer values (Err r) = refused (code r)

-- the form of a card that was read
abbrev pub form_read : CardForm → Result Heading Refusal → CardForm
form_read form (Ok c) = c.form
form_read form (Err r) = form
