-- A card that is written reads as what it says, and one that reads well is written back unchanged. Assumes nothing.
use Prim.Native.Nat.{ℕ, zero, suc, ◌+◌, ◌*◌, ◌-◌, ◌^◌, ◌≤◌, ◌<◌}
use native.Mathlib.Nat.{mod-eq_of_lt}
use native.Mathlib.Omega.{arith}
use lib.Pow.{pow_pos}
use lib.Dec.{eqb, leb, ltb}
use lib.ListN.{length, get_or, replicate, length-append, length-replicate}
use mathlib.Core.Path.{◌≡◌, refl, sym, ap, ◌∙◌, subst}
use mathlib.Core.Bool.{Bool, true, false}
use mathlib.Core.List.{List, [], ◌∷◌, ◌++◌, append_assoc}
use borrow.Author.Tests.{le-leb, lt-ltb, ltb-true, eqb-true}
use Rattle.std.proofs.lemmas.Bool.{and_parts}
use Rattle.number.specs.Ans.{held, ◌>>=◌, demand}
use Rattle.bit_fields.specs.Bits.{numeral, bits_of}
use Rattle.bit_fields.proofs.Digits.{numeral_inj, numeral_digits}
use Rattle.bit_fields.proofs.Bytes.{Bytes, bits_length}
use Rattle.card.specs.declared.Field.{Field}
use Rattle.card.specs.Fields.{Numbers}
use Rattle.card.specs.Card.{Card, Form, form_of, heading, float, component, pair_value, layout, known, filling, read_card}
use Rattle.card.proofs.Good.{taken}
use Rattle.card.proofs.Whole.{knows}
use Rattle.card.specs.Fields.{joined}
use Rattle.card_writer.specs.Writing.{write_fields, card_bits, byte_count, filled, card_bytes}
use Rattle.card_writer.proofs.Bytes.{bits_bytes, bytes_bits, filled_length}
use Rattle.card_writer.proofs.Stored.{digits_zero}
use Rattle.card_round_trips.proofs.Fields.{Fits, read_written, Unread, written_read}

-- what a card of a form can say: a known kind and count, and numbers of their fields' widths
pub record Well (f : Form) (c : Card) : Type 0 where
  pub kind_low : c.kind ≤ 1
  pub some : 1 ≤ c.count
  pub most : c.count ≤ f.most
  pub fits : Fits (layout f c.kind c.count) c.values

-- ---- both forms have fields of the same widths
widths_pairs : (a b : Field) (m k : ℕ) → a.width ≡ b.width → (get_or (replicate m a) k float).width ≡ (get_or (replicate m b) k float).width
widths_pairs a b zero k e = refl
widths_pairs a b (suc m) zero e = e
widths_pairs a b (suc m) (suc k) e = widths_pairs a b m k e

widths_same : (xs : List Field) (a b : Field) (m k : ℕ) → a.width ≡ b.width → (get_or (xs ++ replicate m a) k float).width ≡ (get_or (xs ++ replicate m b) k float).width
widths_same [] a b m k e = widths_pairs a b m k e
widths_same (x ∷ xs) a b m zero e = refl
widths_same (x ∷ xs) a b m (suc k) e = widths_same xs a b m k e

pub fits_other : (f g : Form) (kind n : ℕ) (vs : List ℕ) → Fits (layout f kind n) vs → Fits (layout g kind n) vs
unfolding layout
fits_other f g kind n vs h =
    let xs = joined n (λ _. component kind) in
    let m = n * (n - 1) in
    let l : length (xs ++ replicate m (pair_value f)) ≡ length (xs ++ replicate m (pair_value g)) =
    length-append xs (replicate m (pair_value f)) ∙ rw (length-replicate m (pair_value f)) (sym (length-append xs (replicate m (pair_value g)) ∙ rw (length-replicate m (pair_value g)))) in
    record {
      same = h.same ∙ l;
      small = λ k p. subst (λ (w : ℕ). get_or vs k 0 < 2 ^ w) (widths_same xs (pair_value f) (pair_value g) m k refl) (h.small k (rw l p));
    }

-- ---- the heading
form_first : (newer : Bool) → (form_of newer).first ≤ 2
form_first true = omega arith
form_first false = omega arith

form_most : (newer : Bool) → (form_of newer).most ≤ 12
form_most true = omega arith
form_most false = omega arith

heading_fits : (model count : ℕ) → model < 4 → count < 16 → Fits heading (model ∷ count ∷ [])
heading_fits model count h g = record { same = refl; small = smalls }
  where
    smalls : (k : ℕ) → k < 2 → get_or (model ∷ count ∷ []) k 0 < 2 ^ (get_or heading k float).width
    smalls zero p = h
    smalls (suc zero) p = g
    smalls (suc (suc k)) p = absurd (omega arith)

heading_is : (vs : List ℕ) → length vs ≡ 2 → vs ≡ get_or vs 0 0 ∷ get_or vs 1 0 ∷ []
heading_is [] h = absurd (omega arith)
heading_is (a ∷ []) h = absurd (omega arith)
heading_is (a ∷ b ∷ []) h = refl
heading_is (a ∷ b ∷ d ∷ vs) h = absurd (omega arith)

-- ---- the filling
zeros_numeral : (m : ℕ) → numeral (replicate m false) ≡ 0
zeros_numeral m = rw (← digits_zero m) (numeral_digits m 0 ∙ mod-eq_of_lt (pow_pos m))

zeros_are : (l : List Bool) → numeral l ≡ 0 → l ≡ replicate (length l) false
zeros_are l h = numeral_inj l (replicate (length l) false) (sym (length-replicate (length l) false)) (h ∙ sym (zeros_numeral (length l)))

filling_zeros : (m : ℕ) → m < 8 → filling (replicate m false) ≡ true
unfolding filling
filling_zeros m h = rw (length-replicate m false, zeros_numeral m, lt-ltb m 8 h)

-- ---- a card that is written reads as what it says
module _ (newer : Bool) (c : Card) (w : Well (form_of newer) c) where
  pub written_reads : read_card (form_of newer) (card_bytes (form_of newer) c) ≡ held c
  unfolding read_card card_bytes demand ◌>>=◌ filled card_bits known
  written_reads =
      let f = form_of newer in
      let model = f.first + c.kind in
      let head = write_fields heading (model ∷ c.count ∷ []) in
      let body = write_fields (layout f c.kind c.count) c.values in
      let bits = head ++ body in
      let m = 8 * byte_count (length bits) - length bits in
      let zeros = replicate m false in
      let low = w.kind_low in
      let some = w.some in
      let most = w.most in
      let first = form_first newer in
      let twelve = form_most newer in
      let whole = bits_bytes (byte_count (length bits)) (bits ++ zeros) (filled_length bits) in
      let seam : bits ++ zeros ≡ head ++ (body ++ zeros) = append_assoc head body zeros in
      let one = read_written heading (model ∷ c.count ∷ []) (body ++ zeros) (heading_fits model c.count (omega (arith, low, first)) (omega (arith, most, twelve))) in
      let two = read_written (layout f c.kind c.count) c.values zeros w.fits in
      let k : model - f.first ≡ c.kind = omega arith in
      let a : leb f.first model ≡ true = le-leb f.first model (omega arith) in
      let b : leb model (f.first + 1) ≡ true = le-leb model (f.first + 1) (omega (arith, low)) in
      let d : leb 1 c.count ≡ true = le-leb 1 c.count some in
      let e : leb c.count f.most ≡ true = le-leb c.count f.most most in
      let z : m < 8 = omega arith in
      rw (whole, seam, one, a, b, d, e, k, two, filling_zeros m z)

-- ---- a card that reads well is written back unchanged
record Back (f : Form) (l : List ℕ) (c : Card) : Type 0 where
  left : ℕ
  bits : bits_of l ≡ card_bits f c ++ replicate left false
  few : left < 8
  well : Well f c

back_of : (f : Form) (l : List ℕ) (head body : Numbers) → Unread heading (bits_of l) head → known f (get_or head.values 0 0) (get_or head.values 1 0) ≡ true
    → Unread (layout f (get_or head.values 0 0 - f.first) (get_or head.values 1 0)) head.rest body → filling body.rest ≡ true
    → Back f l (record { kind = get_or head.values 0 0 - f.first; count = get_or head.values 1 0; values = body.values })
unfolding card_bits filling
back_of f l head body h p b q =
    let model = get_or head.values 0 0 in
    let count = get_or head.values 1 0 in
    let kn = knows f model count p in
    let first = kn.first in
    let last = kn.last in
    let e : f.first + (model - f.first) ≡ model = omega (arith, first) in
    let vs = heading_is head.values h.fits.same in
    let left = length body.rest in
    let top = write_fields heading (model ∷ count ∷ []) in
    let rest = write_fields (layout f (model - f.first) count) body.values in
    let z = zeros_are body.rest (eqb-true (numeral body.rest) 0 (and_parts (ltb left 8) (eqb (numeral body.rest) 0) q).1) in
    let whole : bits_of l ≡ (top ++ rest) ++ replicate left false =
    h.bits
    ∙ ap (λ (x : List ℕ). write_fields heading x ++ head.rest) vs
    ∙ ap (λ (x : List Bool). top ++ x) b.bits
    ∙ sym (append_assoc top rest body.rest)
    ∙ ap (λ (x : List Bool). (top ++ rest) ++ x) z in
    record {
      left = left;
      bits = rw e whole;
      few = ltb-true left 8 (and_parts (ltb left 8) (eqb (numeral body.rest) 0) q).0;
      well = record { kind_low = omega (arith, first, last); some = kn.some; most = kn.most; fits = b.fits };
    }

module _ (f : Form) (l : List ℕ) (c : Card) (p : read_card f l ≡ held c) where
  back : Back f l c
  back =
      let t = taken f l c p in
      let model = get_or t.head.values 0 0 in
      let count = get_or t.head.values 1 0 in
      subst (Back f l) t.card_is
      (back_of f l t.head t.body (written_read heading (bits_of l) t.head t.head_read) t.head_known (written_read (layout f (model - f.first) count) t.head.rest t.body t.body_read) t.body_filled)

  pub reads_well : Well f c
  reads_well = back.well

  pub read_writes : Bytes l → card_bytes f c ≡ l
  unfolding card_bytes filled
  read_writes w =
      let b = back in
      let few = b.few in
      let m = 8 * byte_count (length (card_bits f c)) - length (card_bits f c) in
      let n : 8 * length l ≡ length (card_bits f c) + b.left =
      sym (bits_length l) ∙ ap length b.bits ∙ length-append (card_bits f c) (replicate b.left false) ∙ ap (λ (k : ℕ). length (card_bits f c) + k) (length-replicate b.left false) in
      let k : byte_count (length (card_bits f c)) ≡ length l = omega (arith, n, few) in
      let d : 8 * length l - length (card_bits f c) ≡ b.left = omega (arith, n) in
      rw (k, d, ← b.bits) (bytes_bits l w)
