-- Slip 11: a moved card reads as the same numbers, and moved back gives the same bytes. Assumes nothing.
use Prim.Native.Nat.{ℕ, ◌≤◌, ◌<◌}
use native.Mathlib.Omega.{arith}
use lib.Dec.{leb}
use lib.ListN.{length, take, drop, length-append, length-drop}
use lib.Seq.{take-append_seam, drop-append_seam}
use mathlib.Core.Path.{◌≡◌, refl, ◌∙◌, subst}
use mathlib.Core.Bool.{Bool, not}
use mathlib.Core.List.{List, [], ◌++◌}
use borrow.Author.Tests.{le-leb, lt-leb, leb-true}
use Rattle.number.specs.Ans.{held, refused, ◌>>=◌, demand}
use Rattle.number.proofs.Walk.{demanded, then_held, held_inj}
use Rattle.bit_fields.proofs.Bytes.{Bytes}
use Rattle.card.specs.Card.{Card, Form, form_of, older, newer_form, read_card}
use Rattle.card_writer.specs.Writing.{card_bytes, CardRoom, card_stored, card_moved}
use Rattle.card_round_trips.proofs.Cards.{Well, fits_other, written_reads, reads_well, read_writes}

-- ---- what is stored: the card, and behind it what was there
pub record Stored (bytes : List ℕ) (room after : CardRoom) : Type 0 where
  pub long_enough : length bytes ≤ length room.card
  pub told : after.length ≡ length bytes
  pub written : take after.length after.card ≡ bytes
  pub behind : drop after.length after.card ≡ drop after.length room.card
  pub same_length : length after.card ≡ length room.card

pub stores : (bytes : List ℕ) (room after : CardRoom) → card_stored bytes room ≡ held after → Stored bytes room after
unfolding card_stored
stores bytes room after p =
    let a = then_held (demand 12 (leb (length bytes) (length room.card))) _ after p in
    let h = leb-true (length bytes) (length room.card) (demanded 12 (leb (length bytes) (length room.card)) a.0 a.1) in
    let rest = drop (length bytes) room.card in
    subst (Stored bytes room) (held_inj _ after a.2)
    (record {
      long_enough = h;
      told = refl;
      written = take-append_seam bytes rest;
      behind = drop-append_seam bytes rest;
      same_length = length-append bytes rest ∙ rw (length-drop (length bytes) room.card) (omega arith);
    })

pub stored_there : (bytes : List ℕ) (room : CardRoom) → length bytes ≤ length room.card → card_stored bytes room ≡ held (record { card = bytes ++ drop (length bytes) room.card; length = length bytes })
unfolding card_stored demand ◌>>=◌
stored_there bytes room h = rw (le-leb (length bytes) (length room.card) h)

-- ---- a move, taken apart
record Way (f g : Form) (l : List ℕ) (room after : CardRoom) : Type 0 where
  said : Card
  reads : read_card f l ≡ held said
  holds : said.count ≤ g.most
  stored : card_stored (card_bytes g said) room ≡ held after

way : (f g : Form) (l : List ℕ) (room after : CardRoom) → card_moved f g l room ≡ held after → Way f g l room after
unfolding card_moved
way f g l room after p =
    let a = then_held (read_card f l) _ after p in
    let b = then_held (demand 16 (leb a.0.count g.most)) _ after a.2 in
    record { said = a.0; reads = a.1; holds = leb-true a.0.count g.most (demanded 16 (leb a.0.count g.most) b.0 b.1); stored = b.2 }

other_well : (f g : Form) (c : Card) → Well f c → c.count ≤ g.most → Well g c
other_well f g c w h = record { kind_low = w.kind_low; some = w.some; most = h; fits = fits_other f g c.kind c.count c.values w.fits }

-- ---- which cards are moved
pub moves : (f g : Form) (l : List ℕ) (c : Card) (room : CardRoom) → read_card f l ≡ held c → c.count ≤ g.most → card_moved f g l room ≡ card_stored (card_bytes g c) room
unfolding card_moved demand ◌>>=◌
moves f g l c room p h = rw (p, le-leb c.count g.most h)

-- every old card that reads well: 16 is never met
pub older_moves : (l : List ℕ) (c : Card) (room : CardRoom) → read_card older l ≡ held c → card_moved older newer_form l room ≡ card_stored (card_bytes newer_form c) room
older_moves l c room p = let w = reads_well older l c p in let m = w.most in moves older newer_form l c room p (omega (arith, m))

-- 16 for every newer card that reads well and has more than eight components
pub newer_refused : (l : List ℕ) (c : Card) (room : CardRoom) → read_card newer_form l ≡ held c → 8 < c.count → card_moved newer_form older l room ≡ refused 16
unfolding card_moved demand ◌>>=◌
newer_refused l c room p h = rw (p, lt-leb c.count 8 h)

-- ---- 'the moved card reads as lists of the same bits, its length is told, and what lies behind it keeps its bits'
pub record Moved (f g : Form) (l : List ℕ) (room after : CardRoom) : Type 0 where
  pub said : Card
  pub reads : read_card f l ≡ held said
  pub reads_again : read_card g (take after.length after.card) ≡ held said
  pub behind : drop after.length after.card ≡ drop after.length room.card
  pub same_length : length after.card ≡ length room.card

module _ (newer : Bool) (l : List ℕ) (room after : CardRoom) (p : card_moved (form_of newer) (form_of (not newer)) l room ≡ held after) where
  pub moved_reads : Moved (form_of newer) (form_of (not newer)) l room after
  moved_reads =
      let f = form_of newer in
      let g = form_of (not newer) in
      let x = way f g l room after p in
      let s = stores (card_bytes g x.said) room after x.stored in
      record {
        said = x.said;
        reads = x.reads;
        reads_again = rw s.written (written_reads (not newer) x.said (other_well f g x.said (reads_well f l x.said x.reads) x.holds));
        behind = s.behind;
        same_length = s.same_length;
      }

  -- 'Old to new and back gives the same bytes for every old card that reads well, and so does new to old and back where the old form can hold it.'
  pub moved_back : Bytes l → (back : CardRoom) → length l ≤ length back.card
      → card_moved (form_of (not newer)) (form_of newer) (take after.length after.card) back ≡ held (record { card = l ++ drop (length l) back.card; length = length l })
  moved_back w back h =
      let f = form_of newer in
      let g = form_of (not newer) in
      let m = moved_reads in
      let e = read_writes f l m.said m.reads w in
      moves g f (take after.length after.card) m.said back m.reads_again (reads_well f l m.said m.reads).most ∙ rw e (stored_there l back h)
