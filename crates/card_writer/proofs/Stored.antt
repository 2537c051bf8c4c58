-- Laws of a card that is stored in a lent list, and of one that is moved. Assumes nothing.
use Prim.Native.Nat.{ℕ, zero, suc, ◌+◌, ◌*◌, ◌-◌, ◌/◌, ◌%◌, ◌^◌, ◌≤◌, ◌<◌}
use Rattle.std.specs.Prelude.{Err, Ok, Result}
use Rattle.number.specs.declared.refusal.Refusal.{Refusal}
use Rattle.number.specs.Answer.{code}
use native.Mathlib.Omega.{arith}
use lib.Pow.{shr_le}
use lib.ListN.{length, take, drop, replicate, length-append}
use lib.Seq.{get_or-drop, length-take-le}
use mathlib.Core.Path.{◌≡◌, refl, sym, ap, ◌∙◌}
use mathlib.Core.Bool.{Bool, true, false}
use mathlib.Core.List.{List, [], ◌∷◌, ◌++◌, append-nil}
use borrow.Author.Tests.{le-leb, lt-leb}
use Rattle.number.specs.Ans.{Ans, held, refused, ◌>>=◌, demand}
use Rattle.mie_parameters.specs.Answer.{verdict, stored}
use Rattle.bit_fields.specs.Bits.{digits, bits_of, over}
use Rattle.bit_fields.proofs.Digits.{digits_length, numeral_below}
use Rattle.bit_fields.proofs.Bytes.{Bytes, bits_length, bits_drop}
use Rattle.bit_fields.proofs.Written.{over_over}
use Rattle.card.specs.Card.{Card, Form, number_of, layout, value_count, read_card, card_answer}
use Rattle.card.specs.declared.Heading.{Heading}
use Rattle.card.proofs.Good.{Counted, counted}
use Rattle.card.proofs.Reading.{value_small}
use Rattle.card_writer.specs.Writing.{write_field, write_fields, card_bits, byte_count, filled, bytes_of, card_bytes, CardRoom, card_stored, card_moved}
use Rattle.card_writer.proofs.Bytes.{bytes_length, bits_bytes, bytes_same, bits_append, filled_length}

-- ---- bytes
pub bytes_small : (k : ℕ) (l : List Bool) → Bytes (bytes_of k l)
unfolding bytes_of
bytes_small zero l i = omega arith
bytes_small (suc k) l zero = numeral_below 8 8 l (omega arith)
bytes_small (suc k) l (suc i) = bytes_small k (drop 8 l) i

append_small : (s t : List ℕ) → Bytes s → Bytes t → Bytes (s ++ t)
append_small [] t v w i = w i
append_small (b ∷ s) t v w zero = v 0
append_small (b ∷ s) t v w (suc i) = append_small s t (λ j. v (suc j)) w i

drop_small : (k : ℕ) (l : List ℕ) → Bytes l → Bytes (drop k l)
drop_small k l w i = rw (get_or-drop k l i 0) (w (k + i))

pub digits_zero : (m : ℕ) → digits m 0 ≡ replicate m false
unfolding digits
digits_zero zero = refl
digits_zero (suc m) =
    let e : 0 / 2 ^ m % 2 ≡ 0 = zero_of m in
    rw (e, digits_zero m)
  where
    zero_of : (m : ℕ) → 0 / 2 ^ m % 2 ≡ 0
    zero_of m = omega (arith, shr_le 0 m)

-- ---- a card's bits and bytes
module _ (f : Form) (kind n : ℕ) (vs : List ℕ) where
  abbrev card : Card
  card = record { kind = kind; count = n; values = vs }

  head : List Bool
  head = digits 2 (f.first + kind) ++ digits 4 n

  head_6 : length head ≡ 6
  unfolding head
  head_6 = rw (length-append (digits 2 (f.first + kind)) (digits 4 n), digits_length 2 (f.first + kind), digits_length 4 n)

  bits_are : card_bits f card ≡ head ++ write_fields (layout f kind n) vs
  unfolding head card_bits write_fields write_field
  bits_are = rw (append-nil (digits 4 n))

  pub bits_many : length (card_bits f (record { kind = kind; count = n; values = vs })) ≡ 6 + length (write_fields (layout f kind n) vs)
  bits_many = rw (bits_are, length-append head (write_fields (layout f kind n) vs), head_6)

  pub bytes_many : length (card_bytes f (record { kind = kind; count = n; values = vs })) ≡ byte_count (6 + length (write_fields (layout f kind n) vs))
  unfolding card_bytes
  bytes_many = bytes_length _ _ ∙ ap byte_count bits_many

  module _ (room : List ℕ) (told bits : ℕ) (b : bits ≡ 6 + length (write_fields (layout f kind n) vs)) where
    pub store_short : length room < (bits + 7) / 8 → refused 12 ≡ card_stored (card_bytes f (record { kind = kind; count = n; values = vs })) (record { card = room; length = told })
    unfolding card_stored demand ◌>>=◌
    store_short h =
        let e : length (card_bytes f card) ≡ (bits + 7) / 8 = rw b bytes_many in
        rw (lt-leb (length (card_bytes f card)) (length room) (rw e h))

    module _ (w : Bytes room) (h : (bits + 7) / 8 ≤ length room) (model : ℕ) (m : model ≡ f.first + kind) (one two three : List Bool) (exit : List ℕ) (v : Bytes exit)
        (p : one ≡ over 0 (digits 2 model) (bits_of room)) (q : two ≡ over 2 (digits 4 n) one) (r : three ≡ over 6 (write_fields (layout f kind n) vs) two)
        (s : bits_of exit ≡ over bits (digits (8 * ((bits + 7) / 8) - bits) 0) three) where
      reach : bits ≤ length (bits_of room)
      reach = rw (bits_length room) (omega arith)

      headed : two ≡ over 0 head (bits_of room)
      unfolding head
      headed =
          let e = digits_length 2 (f.first + kind) in
          let o = over_over 0 (digits 2 (f.first + kind)) (digits 4 n) (bits_of room) (rw e (omega (arith, reach, b))) in
          q ∙ rw (p, m) (rw e at o)

      numbered : three ≡ over 0 (card_bits f card) (bits_of room)
      numbered =
          let o = over_over 0 head (write_fields (layout f kind n) vs) (bits_of room) (rw head_6 (omega (arith, reach, b))) in
          r ∙ rw (headed, bits_are) (rw head_6 at o)

      zeros : List Bool
      zeros = replicate (8 * ((bits + 7) / 8) - bits) false

      long : length (card_bits f card) ≡ bits
      long = bits_many ∙ sym b

      filled_is : card_bits f card ++ zeros ≡ filled (card_bits f card)
      unfolding filled zeros
      filled_is = rw long

      last : bits_of exit ≡ over 0 (filled (card_bits f card)) (bits_of room)
      unfolding zeros
      last =
          let o = over_over 0 (card_bits f card) zeros (bits_of room) (rw long (omega (arith, reach))) in
          let z : 0 + bits ≡ bits = omega arith in
          s ∙ rw (numbered, digits_zero (8 * ((bits + 7) / 8) - bits)) (rw (long, z, filled_is) at o)

      whole : bits_of exit ≡ bits_of (card_bytes f card ++ drop ((bits + 7) / 8) room)
      unfolding card_bytes over
      whole =
          let e = filled_length (card_bits f card) in
          let d : length (filled (card_bits f card)) ≡ 8 * ((bits + 7) / 8) = rw long at e in
          let y : 0 + 8 * ((bits + 7) / 8) ≡ 8 * ((bits + 7) / 8) = omega arith in
          rw (bits_append (card_bytes f card) (drop ((bits + 7) / 8) room), bits_bytes (byte_count (length (card_bits f card))) (filled (card_bits f card)) e, ← bits_drop ((bits + 7) / 8) room)
          (rw (d, y) at last)

      cards_small : Bytes (card_bytes f card)
      unfolding card_bytes
      cards_small = bytes_small (byte_count (length (card_bits f card))) (filled (card_bits f card))

      pub store_held : held (record { card = exit; length = (bits + 7) / 8 }) ≡ card_stored (card_bytes f (record { kind = kind; count = n; values = vs })) (record { card = room; length = told })
      unfolding card_stored demand ◌>>=◌
      store_held =
          let e : length (card_bytes f card) ≡ (bits + 7) / 8 = rw b bytes_many in
          let k = bytes_same exit (card_bytes f card ++ drop ((bits + 7) / 8) room) v (append_small (card_bytes f card) (drop ((bits + 7) / 8) room) cards_small (drop_small ((bits + 7) / 8) room w)) whole in
          rw (e, le-leb ((bits + 7) / 8) (length room) h, k)

-- ---- what is lent, afterwards
module _ (l : CardRoom) (q : Ans CardRoom) where
  pub refused_verdict : (n : ℕ) → refused n ≡ q → refused n ≡ verdict q
  unfolding verdict
  refused_verdict n p = rw (sym p)

  pub refused_stored : (n : ℕ) → refused n ≡ q → l ≡ stored l q
  unfolding stored
  refused_stored n p = rw (sym p)

  pub held_verdict : (x : CardRoom) → held x ≡ q → held true ≡ verdict q
  unfolding verdict
  held_verdict x p = rw (sym p)

  pub held_stored : (x : CardRoom) → held x ≡ q → x ≡ stored l q
  unfolding stored
  held_stored x p = rw (sym p)

-- ---- moves
module _ (f g : Form) (bytes : List ℕ) (l : CardRoom) (values : List ℕ) (answer : Result Heading Refusal) (p : card_answer values answer ≡ read_card f bytes) where
  pub moved_refused : (r : Refusal) → answer ≡ Err r → refused (code r) ≡ card_moved f g bytes l
  unfolding card_moved ◌>>=◌
  moved_refused r e = rw (← p, e)

  module _ (h : Heading) (e : answer ≡ Ok h) where
    abbrev said : Card
    said = record { kind = number_of h.kind; count = h.count; values = take (value_count (number_of h.kind) h.count) values }

    read_is : read_card f bytes ≡ held said
    read_is = sym (rw e at p)

    pub counts : Counted f (record { kind = number_of h.kind; count = h.count; values = take (value_count (number_of h.kind) h.count) values })
    counts = counted f bytes said read_is

    pub moved_many : g.most < h.count → refused 16 ≡ card_moved f g bytes l
    unfolding card_moved demand ◌>>=◌
    moved_many b = rw (read_is, lt-leb h.count g.most b)

    pub moved_goes : (total : ℕ) → h.count ≤ g.most → total ≡ value_count (number_of h.kind) h.count
        → card_moved f g bytes l ≡ card_stored (card_bytes g (record { kind = number_of h.kind; count = h.count; values = take (total - 0) (drop 0 values) })) l
    unfolding card_moved demand ◌>>=◌
    moved_goes total b t =
        let z : total - 0 ≡ total = omega arith in
        rw (read_is, le-leb h.count g.most b, z, t)

pub part_many : (values : List ℕ) (total kind n : ℕ) → length values ≡ 204 → n ≤ 12 → total ≡ value_count kind n → length (take (total - 0) (drop 0 values)) ≡ value_count kind n
part_many values total kind n e h t =
    let z : total - 0 ≡ total = omega arith in
    let s = value_small kind n h in
    rw (z, t) (length-take-le (value_count kind n) values (omega (arith, e, s)))
