-- Laws of a whole card, one for each place where its reader returns. Assumes nothing.
use Prim.Native.Nat.{ℕ, ◌+◌, ◌-◌, ◌≤◌, ◌<◌}
use Rattle.std.proofs.lemmas.Bool.{and_parts}
use Rattle.std.specs.Prelude.{Err, Ok, Result}
use Rattle.number.specs.declared.refusal.Refusal.{Refusal}
use Rattle.number.specs.Answer.{code}
use native.Mathlib.Omega.{arith}
use lib.Dec.{leb}
use lib.ListN.{drop}
use mathlib.Core.Path.{◌≡◌, refl, sym}
use mathlib.Core.Bool.{Bool, true, false, ◌&&◌}
use mathlib.Core.List.{List, [], ◌∷◌}
use borrow.Author.Tests.{leb-true}
use Rattle.number.specs.Ans.{held, refused, ◌>>=◌, demand}
use Rattle.bit_fields.specs.Bits.{bits_of}
use Rattle.card.specs.Fields.{read_plain, read_field, read_fields}
use Rattle.card.specs.Card.{Form, form_of, heading, layout, value_count, known, filling, read_card, field_answer, end_answer, reach_of, card_answer, kind_of, number_of}
use Rattle.card.specs.declared.Form.{Form as CardForm}
use Rattle.card.specs.declared.Kind.{Kind}
use Rattle.card.specs.declared.FieldValue.{FieldValue}
use Rattle.card.proofs.Fields.{number_same}

-- what a known heading says
pub record Known (f : Form) (model count : ℕ) : Type 0 where
  pub first : f.first ≤ model
  pub last : model ≤ f.first + 1
  pub some : 1 ≤ count
  pub most : count ≤ f.most

pub knows : (f : Form) (model count : ℕ) → known f model count ≡ true → Known f model count
unfolding known
knows f model count p =
    let a = leb f.first model in
    let b = leb model (f.first + 1) in
    let c = leb 1 count in
    let d = leb count f.most in
    let abc = (and_parts (a && b && c) d p).0 in
    let ab = (and_parts (a && b) c abc).0 in
    record {
      first = leb-true f.first model (and_parts a b ab).0;
      last = leb-true model (f.first + 1) (and_parts a b ab).1;
      some = leb-true 1 count (and_parts (a && b) c abc).1;
      most = leb-true count f.most (and_parts (a && b && c) d p).1;
    }

-- the kind that is read from a known model
pub known_kind : (f : Form) (model count : ℕ) (kind : Kind) → known f model count ≡ true → kind ≡ kind_of (model - f.first) → number_of kind ≡ model - f.first
known_kind f model count kind p e = let k = knows f model count p in number_same kind (model - f.first) e (omega (arith, k.last))

pub twelve : (newer : Bool) (n : ℕ) → n ≤ (form_of newer).most → n ≤ 12
twelve true n h = h
twelve false n h = omega arith

pub reach : (r : Result ℕ Refusal) (e m : ℕ) → r ≡ Ok e → reach_of r < m → e < m
reach r e m p h = rw p at h

module _ (f : Form) (card : List ℕ) (first : Result FieldValue Refusal) (p : field_answer card first ≡ read_plain 2 (bits_of card)) where
  pub model_short : (r : Refusal) → first ≡ Err r → refused (code r) ≡ read_card f card
  unfolding read_card read_fields read_field ◌>>=◌
  model_short r e = rw (← p, e)

  module _ (model : FieldValue) (e : first ≡ Ok model) (second : Result FieldValue Refusal) (q : field_answer card second ≡ read_plain 4 (drop model.end (bits_of card))) where
    modelled : read_plain 2 (bits_of card) ≡ held (record { value = model.value; rest = drop model.end (bits_of card) })
    modelled = sym (rw e at p)

    pub count_short : (r : Refusal) → second ≡ Err r → refused (code r) ≡ read_card f card
    unfolding read_card read_fields read_field ◌>>=◌
    count_short r d = rw (modelled, ← q, d)

    module _ (count : FieldValue) (d : second ≡ Ok count) where
      headed : read_fields heading (bits_of card) ≡ held (record { values = model.value ∷ count.value ∷ []; rest = drop count.end (bits_of card) })
      unfolding read_fields read_field ◌>>=◌
      headed =
          let r : read_plain 4 (drop model.end (bits_of card)) ≡ held (record { value = count.value; rest = drop count.end (bits_of card) }) = sym (rw d at q) in
          rw (modelled, r)

      pub not_known : known f model.value count.value ≡ false → refused 10 ≡ read_card f card
      unfolding read_card demand ◌>>=◌
      not_known t = rw (headed, t)

      module _ (t : known f model.value count.value ≡ true) (kind : Kind) (k : number_of kind ≡ model.value - f.first) (values : List ℕ) (third : Result ℕ Refusal)
          (r : end_answer card (value_count (number_of kind) count.value) values third ≡ read_fields (layout f (number_of kind) count.value) (drop count.end (bits_of card))) where
        pub values_refused : (e : Refusal) → third ≡ Err e → refused (code e) ≡ read_card f card
        unfolding read_card demand ◌>>=◌
        values_refused e c =
            let s = rw (c, k) at r in
            rw (headed, t, ← s)

        module _ (end : ℕ) (c : third ≡ Ok end) where
          pub left_over : filling (drop end (bits_of card)) ≡ false → refused 11 ≡ read_card f card
          unfolding read_card demand ◌>>=◌
          left_over z =
              let s = rw (c, k) at r in
              rw (headed, t, ← s, z)

          pub whole : (form : CardForm) → filling (drop end (bits_of card)) ≡ true → card_answer values (Ok (record { kind = kind; count = count.value; form = form })) ≡ read_card f card
          unfolding read_card demand ◌>>=◌
          whole form z =
              let s = rw (c, k) at r in
              rw (headed, t, ← s, z, k)
