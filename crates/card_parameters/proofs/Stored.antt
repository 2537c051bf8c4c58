-- The operation test by test, over plain values. Assumes nothing.
use Prim.Native.Nat.{ℕ, ◌-◌, ◌≤◌}
use Rattle.std.proofs.lemmas.Bool.{and_parts}
use Rattle.std.specs.Prelude.{Err, Ok, Result}
use Rattle.number.specs.declared.refusal.Refusal.{Refusal}
use native.Mathlib.Omega.{arith}
use lib.Ieee.{Float}
use lib.ListN.{take, drop}
use mathlib.Core.Path.{◌≡◌, refl, sym, ◌∙◌}
use mathlib.Core.Bool.{true, false}
use mathlib.Core.List.{List}
use Rattle.number.specs.Ans.{Ans, held, refused, ◌>>=◌, demand}
use Rattle.number.specs.Answer.{code, answer}
use Rattle.mie_parameters.specs.Answer.{verdict, stored}
use Rattle.saftvrqmie_parameters.specs.Parameters as Quantum
use Rattle.saftvrqmie_parameters.specs.declared.SaftVRQMiePars.{SaftVRQMiePars}
use Rattle.saftvrmie_parameters.specs.Parameters as Mie
use Rattle.saftvrmie_parameters.specs.declared.SaftVRMiePars.{SaftVRMiePars}
use Rattle.set_lists.specs.Written.{QuantumLent, MieLent, set_written, mie_written}
use Rattle.card.specs.Card.{Card, Form, number_of, value_count, read_card, card_answer}
use Rattle.card.specs.declared.Heading.{Heading}
use Rattle.card.proofs.Good.{counted}
use Rattle.set_lists.specs.Sets.{quantum_lengths, mie_lengths}
use Rattle.card_lists.specs.Lists.{quantum_lists, mie_lists}
use Rattle.card_parameters.specs.Parameters.{CardLent, card_lengths, quantum_stored, mie_stored, card_stored, card_parameters}

-- a refused call has changed nothing
pub none_stored : (l : CardLent) (q : Ans CardLent) (n : ℕ) → q ≡ refused n
    → (refused n ≡ verdict q) × (l.model ≡ (stored l q).model) × (l.count ≡ (stored l q).count) × (l.m ≡ (stored l q).m) × (l.lists ≡ (stored l q).lists) × (l.sheets ≡ (stored l q).sheets) × (l.orders ≡ (stored l q).orders)
unfolding verdict stored
none_stored l q n p = rw p (refl, refl, refl, refl, refl, refl, refl)

pub all_stored : (l x : CardLent) (q : Ans CardLent) → q ≡ held x
    → (held true ≡ verdict q) × (x.model ≡ (stored l q).model) × (x.count ≡ (stored l q).count) × (x.m ≡ (stored l q).m) × (x.lists ≡ (stored l q).lists) × (x.sheets ≡ (stored l q).sheets) × (x.orders ≡ (stored l q).orders)
unfolding verdict stored
all_stored l x q p = rw p (refl, refl, refl, refl, refl, refl, refl)

module _ (c : Card) (l : QuantumLent) (g : Result SaftVRQMiePars Refusal) where
  quantum_stored_refused : {n : Refusal} → answer g ≡ Quantum.saft_vrq_mie_pars (quantum_lists c) → g ≡ Err n → quantum_stored c l ≡ refused (code n)
  unfolding quantum_stored ◌>>=◌
  quantum_stored_refused p e = rw (← p, e)

  quantum_stored_held : {s : SaftVRQMiePars} → answer g ≡ Quantum.saft_vrq_mie_pars (quantum_lists c) → g ≡ Ok s → quantum_stored c l ≡ held (set_written s l)
  unfolding quantum_stored ◌>>=◌
  quantum_stored_held p e = rw (← p, e)

module _ (c : Card) (l : MieLent) (g : Result SaftVRMiePars Refusal) where
  mie_stored_refused : {n : Refusal} → answer g ≡ Mie.saft_vr_mie_pars (mie_lists c) → g ≡ Err n → mie_stored c l ≡ refused (code n)
  unfolding mie_stored ◌>>=◌
  mie_stored_refused p e = rw (← p, e)

  mie_stored_held : {s : SaftVRMiePars} → answer g ≡ Mie.saft_vr_mie_pars (mie_lists c) → g ≡ Ok s → mie_stored c l ≡ held (mie_written s l)
  unfolding mie_stored ◌>>=◌
  mie_stored_held p e = rw (← p, e)

pub whole_part : (total m : ℕ) (values : List ℕ) → total ≡ m → take (total - 0) (drop 0 values) ≡ take m values
whole_part total m values p = let e : total - 0 ≡ m = omega (arith, p) in rw e

module _ (f : Form) (card : List ℕ) (l : CardLent) where
  pub lengths_1 : card_lengths l.m l.lists l.sheets l.orders ≡ false → card_parameters f card l ≡ refused 1
  unfolding card_parameters demand ◌>>=◌
  lengths_1 t = rw t

  module _ (t : card_lengths l.m l.lists l.sheets l.orders ≡ true) where
    pub card_refused : (values : List ℕ) (r : Result Heading Refusal) {n : Refusal} → card_answer values r ≡ read_card f card → r ≡ Err n → card_parameters f card l ≡ refused (code n)
    unfolding card_parameters demand ◌>>=◌
    card_refused values r p e = rw (t, ← p, e)

    module _ (values : List ℕ) (r : Result Heading Refusal) (head : Heading) (p : card_answer values r ≡ read_card f card) (e : r ≡ Ok head) where
      reads : read_card f card ≡ held (record { kind = number_of head.kind; count = head.count; values = take (value_count (number_of head.kind) head.count) values })
      reads = sym (rw e at p)

      pub within : (1 ≤ head.count) × (head.count ≤ f.most)
      within = let c = counted f card (record { kind = number_of head.kind; count = head.count; values = take (value_count (number_of head.kind) head.count) values }) reads in (c.some, c.most)

      module _ (part : List ℕ) (d : part ≡ take (value_count (number_of head.kind) head.count) values) where
        goes : card_parameters f card l ≡ card_stored (record { kind = number_of head.kind; count = head.count; values = part }) l
        unfolding card_parameters demand ◌>>=◌
        goes = rw (t, reads, d)

        module _ (z : number_of head.kind ≡ 0) (g : Result SaftVRQMiePars Refusal) (h : answer g ≡ Quantum.saft_vrq_mie_pars (quantum_lists (record { kind = 0; count = head.count; values = part }))) where
          pub quantum_stops : {n : Refusal} → g ≡ Err n → card_parameters f card l ≡ refused (code n)
          unfolding card_stored ◌>>=◌
          quantum_stops e = goes ∙ rw (z, quantum_stored_refused (record { kind = 0; count = head.count; values = part }) (record { m = l.m; sheets = l.sheets; orders = l.orders }) g h e)

          pub quantum_goes : {s : SaftVRQMiePars} → g ≡ Ok s → card_parameters f card l ≡ held (let w = set_written s (record { m = l.m; sheets = l.sheets; orders = l.orders }) in record { model = 0; count = head.count; m = w.m; lists = l.lists; sheets = w.sheets; orders = w.orders })
          unfolding card_stored ◌>>=◌
          quantum_goes e = goes ∙ rw (z, quantum_stored_held (record { kind = 0; count = head.count; values = part }) (record { m = l.m; sheets = l.sheets; orders = l.orders }) g h e)

        module _ (z : number_of head.kind ≡ 1) (g : Result SaftVRMiePars Refusal) (h : answer g ≡ Mie.saft_vr_mie_pars (mie_lists (record { kind = 1; count = head.count; values = part }))) where
          pub mie_stops : {n : Refusal} → g ≡ Err n → card_parameters f card l ≡ refused (code n)
          unfolding card_stored ◌>>=◌
          mie_stops e = goes ∙ rw (z, mie_stored_refused (record { kind = 1; count = head.count; values = part }) (record { lists = l.lists; sheets = l.sheets }) g h e)

          pub mie_goes : {s : SaftVRMiePars} → g ≡ Ok s → card_parameters f card l ≡ held (let w = mie_written s (record { lists = l.lists; sheets = l.sheets }) in record { model = 1; count = head.count; m = l.m; lists = w.lists; sheets = w.sheets; orders = l.orders })
          unfolding card_stored ◌>>=◌
          mie_goes e = goes ∙ rw (z, mie_stored_held (record { kind = 1; count = head.count; values = part }) (record { lists = l.lists; sheets = l.sheets }) g h e)

-- what the parts require
pub quantum_right : (m lists sheets : List Float) (orders : List ℕ) → card_lengths m lists sheets orders ≡ true → quantum_lengths m sheets orders ≡ true
unfolding card_lengths
quantum_right m lists sheets orders p = (and_parts (quantum_lengths m sheets orders) (mie_lengths lists sheets) p).0

pub mie_right : (m lists sheets : List Float) (orders : List ℕ) → card_lengths m lists sheets orders ≡ true → mie_lengths lists sheets ≡ true
unfolding card_lengths
mie_right m lists sheets orders p = (and_parts (quantum_lengths m sheets orders) (mie_lengths lists sheets) p).1
