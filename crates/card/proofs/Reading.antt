-- Laws of reading, one for each place where the code returns. Assumes nothing.
use Prim.Native.Nat.{ℕ, suc, ◌+◌, ◌*◌, ◌-◌, ◌/◌, ◌≤◌, ◌<◌}
use Rattle.std.specs.Prelude.{Err, Ok, Result}
use Rattle.number.specs.declared.refusal.Refusal.{Refusal}
use Rattle.number.specs.Answer.{code}
use native.Mathlib.Nat.{le_of_eq, mul-le-mul}
use native.Mathlib.Numerals.{add-one}
use native.Mathlib.Omega.{arith}
use lib.Dec.{eqb, leb}
use lib.ListN.{length, get_or, take, drop, set, length-drop, drop_of_length-le}
use lib.Seq.{drop-drop, drop-cons, take-suc-set, take_all}
use mathlib.Core.Path.{◌≡◌, refl, sym, ◌∙◌}
use mathlib.Core.Bool.{Bool, true, false, ◌&&◌, cond}
use mathlib.Core.List.{List, [], ◌∷◌, ◌++◌, append_assoc, append-nil}
use borrow.Author.Tests.{eq-eqb, ne_eqb, le-leb, lt-leb, lt-ltb, le-ltb}
use Rattle.number.specs.Ans.{Ans, held, refused, ◌>>=◌, demand}
use Rattle.bit_fields.specs.Bits.{numeral, bits_of}
use Rattle.bit_fields.proofs.Bytes.{bits_length}
use Rattle.card.specs.Fields.{Read, Numbers, read_plain, read_spared, read_field, read_fields}
use Rattle.card.specs.Card.{Form, layout, size, value_count, known, filling, field_answer, end_of}
use Rattle.card.proofs.Fields.{layout_length}
use Rattle.card.specs.declared.Field.{Field}
use Rattle.card.specs.declared.FieldValue.{FieldValue}

-- ---- one field
module _ (card : List ℕ) (at width : ℕ) where
  pub plain_short : 0 < width → length card < (at + width + 7) / 8 → refused 9 ≡ read_plain width (drop at (bits_of card))
  unfolding read_plain demand ◌>>=◌
  plain_short z h =
      let b : length (drop at (bits_of card)) < width = rw (length-drop at (bits_of card), bits_length card) (omega arith) in
      rw (lt-leb width (length (drop at (bits_of card))) b)

  pub plain_held : (value : ℕ) → (at + width + 7) / 8 ≤ length card → value ≡ numeral (take width (drop at (bits_of card)))
      → held (record { value = value; rest = drop (at + width) (bits_of card) }) ≡ read_plain width (drop at (bits_of card))
  unfolding read_plain demand ◌>>=◌
  plain_held value h p =
      let b : width ≤ length (drop at (bits_of card)) = rw (length-drop at (bits_of card), bits_length card) (omega arith) in
      rw (le-leb width (length (drop at (bits_of card))) b, p, drop-drop width at (bits_of card))

pub ends : (r : Result FieldValue Refusal) (v : FieldValue) (m : ℕ) → r ≡ Ok v → end_of r ≤ m → v.end ≤ m
ends r v m e h = rw e at h

-- ---- a field that is spared where its number is 0
module _ (card : List ℕ) (at width : ℕ) (first : Result FieldValue Refusal) (p : field_answer card first ≡ read_plain 1 (drop at (bits_of card))) where
  pub flag_short : (r : Refusal) → first ≡ Err r → refused (code r) ≡ read_spared width (drop at (bits_of card))
  unfolding read_spared ◌>>=◌
  flag_short r e = rw (← p, e)

  module _ (flag : FieldValue) (e : first ≡ Ok flag) where
    flagged : read_plain 1 (drop at (bits_of card)) ≡ held (record { value = flag.value; rest = drop flag.end (bits_of card) })
    flagged = sym (rw e at p)

    pub flag_zero : flag.value ≡ 0 → field_answer card (Ok flag) ≡ read_spared width (drop at (bits_of card))
    unfolding read_spared ◌>>=◌
    flag_zero z = rw (flagged, eq-eqb flag.value 0 z)

    module _ (z : flag.value ≡ 0 → ⊥) (second : Result FieldValue Refusal) (q : field_answer card second ≡ read_plain width (drop flag.end (bits_of card))) where
      pub stored_short : (r : Refusal) → second ≡ Err r → refused (code r) ≡ read_spared width (drop at (bits_of card))
      unfolding read_spared ◌>>=◌
      stored_short r d = rw (flagged, ne_eqb flag.value 0 z, ← q, d)

      module _ (v : FieldValue) (d : second ≡ Ok v) where
        stored : read_plain width (drop flag.end (bits_of card)) ≡ held (record { value = v.value; rest = drop v.end (bits_of card) })
        stored = sym (rw d at q)

        pub stored_zero : v.value ≡ 0 → refused 15 ≡ read_spared width (drop at (bits_of card))
        unfolding read_spared demand ◌>>=◌
        stored_zero y = rw (flagged, ne_eqb flag.value 0 z, stored, eq-eqb v.value 0 y)

        pub stored_held : (v.value ≡ 0 → ⊥) → field_answer card (Ok v) ≡ read_spared width (drop at (bits_of card))
        unfolding read_spared demand ◌>>=◌
        stored_held y = rw (flagged, ne_eqb flag.value 0 z, stored, ne_eqb v.value 0 y)

pub field_spared : (f : Field) (l : List Bool) → f.spared ≡ true → read_spared f.width l ≡ read_field f l
unfolding read_field
field_spared f l p = rw p

pub field_plain : (f : Field) (l : List Bool) → f.spared ≡ false → read_plain f.width l ≡ read_field f l
unfolding read_field
field_plain f l p = rw p

-- ---- all numbers: what was read before stands in front
prepend : List ℕ → Ans Numbers → Ans Numbers
prepend before a = a >>= λ b. held (record { values = before ++ b.values; rest = b.rest })

prepend_none : (a : Ans Numbers) → prepend [] a ≡ a
unfolding prepend ◌>>=◌
prepend_none (held b) = refl
prepend_none (refused n) = refl

prepend_one : (before : List ℕ) (x : ℕ) (a : Ans Numbers) → prepend (before ++ (x ∷ [])) a ≡ prepend before (◌>>=◌ {T = Numbers} a (λ b. held (record { values = x ∷ b.values; rest = b.rest })))
unfolding prepend ◌>>=◌
prepend_one before x (held b) = rw (append_assoc before (x ∷ []) b.values)
prepend_one before x (refused n) = refl

-- what a loop over the fields keeps
pub On : List Field → List Bool → List ℕ → List ℕ → ℕ → ℕ → Type 0
On fields whole card values end k = prepend (take k values) (read_fields (drop k fields) (drop end (bits_of card))) ≡ read_fields fields whole

module _ (fields : List Field) (card : List ℕ) (at : ℕ) where
  pub on_start : (values : List ℕ) → On fields (drop at (bits_of card)) card values at 0
  unfolding On
  on_start values = prepend_none (read_fields fields (drop at (bits_of card)))

  module _ (values : List ℕ) (end k : ℕ) (field : Field) (d : Field) (p : On fields (drop at (bits_of card)) card values end k) (h : k < length fields) (e : field ≡ get_or fields k d) where
    here : prepend (take k values) (read_fields (field ∷ drop (suc k) fields) (drop end (bits_of card))) ≡ read_fields fields (drop at (bits_of card))
    unfolding On
    here = rw e (rw (drop-cons fields k d h) at p)

    pub on_next : (v : FieldValue) → k < length values → field_answer card (Ok v) ≡ read_field field (drop end (bits_of card)) → On fields (drop at (bits_of card)) card (set values k v.value) v.end (k + 1)
    unfolding On read_fields ◌>>=◌
    on_next v g q =
        rw (add-one, take-suc-set values k v.value g)
        (prepend_one (take k values) v.value (read_fields (drop (suc k) fields) (drop v.end (bits_of card))) ∙ rw (← q) at here)

    pub on_stop : (n : ℕ) → refused n ≡ read_field field (drop end (bits_of card)) → refused n ≡ read_fields fields (drop at (bits_of card))
    unfolding prepend read_fields ◌>>=◌
    on_stop n q = rw (← q) at here

  pub on_end : (values : List ℕ) (end k total : ℕ) → On fields (drop at (bits_of card)) card values end k → k ≡ total → length fields ≡ total
      → held (record { values = take total values; rest = drop end (bits_of card) }) ≡ read_fields fields (drop at (bits_of card))
  unfolding On prepend read_fields ◌>>=◌
  on_end values end k total p e h =
      let n : drop total fields ≡ [] = drop_of_length-le fields (le_of_eq h) in
      rw (e, n, append-nil (take total values)) at p

pub value_small : (kind n : ℕ) → n ≤ 12 → value_count kind n ≤ 204
value_small kind n h =
    let a : n * size kind ≤ 12 * 6 = mul-le-mul h (few (eqb kind 0)) in
    let g : n - 1 ≤ 11 = omega arith in
    let b : n * (n - 1) ≤ 12 * 11 = mul-le-mul h g in
    omega (arith, a, b)
  where
    few : (b : Bool) → cond b 6 5 ≤ 6
    few true = omega arith
    few false = omega arith

-- ---- the tests of a card
pub known_by : (f : Form) (first most model count : ℕ) → first ≡ f.first → most ≡ f.most → (leb first model && leb model (first + 1) && leb 1 count && leb count most) ≡ known f model count
unfolding known
known_by f first most model count a b = rw (a, b)

module _ (card : List ℕ) (end : ℕ) where
  left : length (drop end (bits_of card)) ≡ 8 * length card - end
  left = rw (length-drop end (bits_of card), bits_length card)

  pub filling_over : (end + 7) / 8 < length card → false ≡ filling (drop end (bits_of card))
  unfolding filling
  filling_over h = let b : 8 ≤ length (drop end (bits_of card)) = rw left (omega arith) in rw (le-ltb (length (drop end (bits_of card))) 8 b)

  pub filling_none : length card < (end + 7) / 8 → true ≡ filling (drop end (bits_of card))
  unfolding filling numeral
  filling_none h =
      let b : length (bits_of card) ≤ end = rw (bits_length card) (omega arith) in
      rw (drop_of_length-le (bits_of card) b)

  pub filling_last : (value : ℕ) → (end + 7) / 8 ≡ length card → value ≡ numeral (take (8 * ((end + 7) / 8) - end) (drop end (bits_of card))) → eqb value 0 ≡ filling (drop end (bits_of card))
  unfolding filling
  filling_last value e p =
      let b : length (drop end (bits_of card)) < 8 = rw left (omega arith) in
      let c : length (drop end (bits_of card)) ≤ 8 * ((end + 7) / 8) - end = rw left (omega arith) in
      let q = rw (take_all (8 * ((end + 7) / 8) - end) (drop end (bits_of card)) c) at p in
      rw (lt-ltb (length (drop end (bits_of card))) 8 b, q)

pub pairs_small : (n : ℕ) → n ≤ 12 → n * (n - 1) ≤ 132
pairs_small n h = let g : n - 1 ≤ 11 = omega arith in mul-le-mul h g

pub total_small : (kind n total : ℕ) → n ≤ 12 → total ≡ value_count kind n → total ≤ 204
total_small kind n total h e = rw e (value_small kind n h)

pub in_layout : (f : Form) (kind n k total : ℕ) → total ≡ value_count kind n → k < total → k < length (layout f kind n)
in_layout f kind n k total e h = rw (layout_length f kind n, ← e) h

pub value_at : (card : List ℕ) (r : Result FieldValue Refusal) (v : FieldValue) (a : Ans Read) → r ≡ Ok v → field_answer card r ≡ a → field_answer card (Ok v) ≡ a
value_at card r v a e p = rw e at p
