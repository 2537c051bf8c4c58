-- Laws of fields that are written one after the other. Assumes nothing.
use Prim.Native.Nat.{ℕ, zero, suc, ◌+◌, ◌≤◌, ◌<◌}
use native.Mathlib.Nat.{le_of_eq}
use native.Mathlib.Numerals.{add-one}
use native.Mathlib.Omega.{arith}
use lib.Dec.{eqb}
use lib.ListN.{length, take, get_or, length-append}
use lib.Seq.{take_all}
use mathlib.Core.Path.{◌≡◌, refl, sym, ap, ◌∙◌}
use mathlib.Core.Bool.{Bool, true, false, cond}
use mathlib.Core.List.{List, [], ◌∷◌, ◌++◌, append_assoc, append-nil}
use borrow.Author.Tests.{eq-eqb, ne_eqb}
use Rattle.bit_fields.specs.Bits.{digits, over}
use Rattle.bit_fields.proofs.Digits.{digits_length}
use Rattle.bit_fields.proofs.Written.{over_none, over_over}
use Rattle.card.specs.declared.Field.{Field}
use Rattle.card.specs.Card.{form_of, float, layout, value_count}
use Rattle.card.proofs.Fields.{layout_length}
use Rattle.card.proofs.Reading.{value_small}
use Rattle.card_writer.specs.Writing.{write_field, write_fields}

-- ---- one field
module _ (f : Field) (v : ℕ) where
  pub field_zero : f.spared ≡ true → v ≡ 0 → write_field f v ≡ false ∷ []
  unfolding write_field
  field_zero p z = rw (p, eq-eqb v 0 z)

  pub field_stored : f.spared ≡ true → (v ≡ 0 → ⊥) → write_field f v ≡ true ∷ digits f.width v
  unfolding write_field
  field_stored p z = rw (p, ne_eqb v 0 z)

  pub field_plain : f.spared ≡ false → write_field f v ≡ digits f.width v
  unfolding write_field
  field_plain p = rw p

  pub length_zero : f.spared ≡ true → v ≡ 0 → 1 ≡ length (write_field f v)
  length_zero p z = rw (field_zero p z)

  pub length_stored : f.spared ≡ true → (v ≡ 0 → ⊥) → f.width + 1 ≡ length (write_field f v)
  length_stored p z = rw (field_stored p z, digits_length f.width v) (omega arith)

  pub length_plain : f.spared ≡ false → f.width ≡ length (write_field f v)
  length_plain p = rw (field_plain p, digits_length f.width v)

  pub length_small : f.width ≤ 64 → length (write_field f v) ≤ 65
  unfolding write_field
  length_small h = either f.spared (eqb v 0)
    where
      either : (s z : Bool) → length (cond s (cond z (false ∷ []) (true ∷ digits f.width v)) (digits f.width v)) ≤ 65
      either true true = omega arith
      either true false = omega (arith, h, digits_length f.width v)
      either false z = omega (arith, h, digits_length f.width v)

  -- in its place
  module _ (at : ℕ) (old : List Bool) where
    pub zero_over : (new : List Bool) → f.spared ≡ true → v ≡ 0 → new ≡ over at (digits 1 0) old → new ≡ over at (write_field f v) old
    unfolding digits
    zero_over new p z e = rw (field_zero p z) e

    pub stored_over : (flagged new : List Bool) → f.spared ≡ true → (v ≡ 0 → ⊥) → at + length (write_field f v) ≤ length old
        → flagged ≡ over at (digits 1 1) old → new ≡ over (at + 1) (digits f.width v) flagged → new ≡ over at (write_field f v) old
    unfolding digits
    stored_over flagged new p z h e d =
        let g = rw (sym (length_stored p z)) at h in
        rw (field_stored p z) (d ∙ ap (over (at + 1) (digits f.width v)) e ∙ over_over at (true ∷ []) (digits f.width v) old (omega (arith, g)))

    pub plain_over : (new : List Bool) → f.spared ≡ false → new ≡ over at (digits f.width v) old → new ≡ over at (write_field f v) old
    plain_over new p e = rw (field_plain p) e

-- ---- the first k of them
abbrev pub part : List Field → List ℕ → ℕ → List Bool
part fs vs k = write_fields (take k fs) (take k vs)

pub part_next : (fs : List Field) (vs : List ℕ) (k : ℕ) (d : Field) → k < length fs → k < length vs → part fs vs (suc k) ≡ part fs vs k ++ write_field (get_or fs k d) (get_or vs k 0)
unfolding write_fields
part_next [] vs k d h g = absurd (omega arith)
part_next (f ∷ fs) [] k d h g = absurd (omega arith)
part_next (f ∷ fs) (v ∷ vs) zero d h g = append-nil (write_field f v)
part_next (f ∷ fs) (v ∷ vs) (suc k) d h g =
    rw (part_next fs vs k d (omega arith) (omega arith)) (sym (append_assoc (write_field f v) (part fs vs k) (write_field (get_or fs k d) (get_or vs k 0))))

pub part_le : (fs : List Field) (vs : List ℕ) (k : ℕ) → length (part fs vs k) ≤ length (write_fields fs vs)
unfolding write_fields
part_le fs vs zero = omega arith
part_le [] vs (suc k) = omega arith
part_le (f ∷ fs) [] (suc k) = omega arith
part_le (f ∷ fs) (v ∷ vs) (suc k) =
    let h = part_le fs vs k in
    rw (length-append (write_field f v) (part fs vs k), length-append (write_field f v) (write_fields fs vs)) (omega (arith, h))

pub part_all : (fs : List Field) (vs : List ℕ) (k : ℕ) → length fs ≡ k → length vs ≡ k → part fs vs k ≡ write_fields fs vs
part_all fs vs k e d = rw (take_all k fs (le_of_eq e), take_all k vs (le_of_eq d))

-- ---- a card's numbers
module _ (kind n : ℕ) (newer : Bool) (vs : List ℕ) (total : ℕ) (few : n ≤ 12) (whole : total ≡ value_count kind n) (e : length vs ≡ value_count kind n) where
  fs : List Field
  fs = layout (form_of newer) kind n

  fs_length : length fs ≡ total
  unfolding fs
  fs_length = layout_length (form_of newer) kind n ∙ sym whole

  vs_length : length vs ≡ total
  vs_length = e ∙ sym whole

  pub total_below : total ≤ 204
  total_below = rw whole (value_small kind n few)

  module _ (k : ℕ) (h : k < total) (field : Field) (p : field ≡ get_or (layout (form_of newer) kind n) k float) where
    -- the field in hand
    pub next_is : part (layout (form_of newer) kind n) vs (k + 1) ≡ part (layout (form_of newer) kind n) vs k ++ write_field field (get_or vs k 0)
    unfolding fs
    next_is = rw (add-one, p) (part_next fs vs k float (rw fs_length h) (rw vs_length h))

    pub next_length : length (part (layout (form_of newer) kind n) vs (k + 1)) ≡ length (part (layout (form_of newer) kind n) vs k) + length (write_field field (get_or vs k 0))
    next_length = rw (next_is, length-append (part (layout (form_of newer) kind n) vs k) (write_field field (get_or vs k 0)))

    pub next_fits : length (part (layout (form_of newer) kind n) vs k) + length (write_field field (get_or vs k 0)) ≤ length (write_fields (layout (form_of newer) kind n) vs)
    next_fits = rw (← next_length) (part_le (layout (form_of newer) kind n) vs (k + 1))

    pub next_over : (end size : ℕ) (old now new : List Bool) → end ≡ 6 + length (part (layout (form_of newer) kind n) vs k) → size ≡ length old → 6 + length (write_fields (layout (form_of newer) kind n) vs) ≤ size
        → now ≡ over 6 (part (layout (form_of newer) kind n) vs k) old → new ≡ over end (write_field field (get_or vs k 0)) now → new ≡ over 6 (part (layout (form_of newer) kind n) vs (k + 1)) old
    next_over end size old now new a s g q r =
        let l = part_le (layout (form_of newer) kind n) vs k in
        rw next_is (r ∙ rw (q, a) (over_over 6 (part (layout (form_of newer) kind n) vs k) (write_field field (get_or vs k 0)) old (omega (arith, l, s))))

  pub all_is : (k : ℕ) → k ≤ total → total ≤ k → part (layout (form_of newer) kind n) vs k ≡ write_fields (layout (form_of newer) kind n) vs
  unfolding fs
  all_is k h g = let d : total ≡ k = omega arith in part_all fs vs k (fs_length ∙ d) (vs_length ∙ d)

pub none_over : (fs : List Field) (vs : List ℕ) (at : ℕ) (old : List Bool) → old ≡ over at (part fs vs 0) old
unfolding write_fields
none_over fs vs at old = sym (over_none at old)

pub none_length : (fs : List Field) (vs : List ℕ) → length (part fs vs 0) ≡ 0
unfolding write_fields
none_length fs vs = refl
