-- Slip 6, SAFT-VR Mie: a written card reads as the same lists, and a card that reads well and passes the tests is written back unchanged. Assumes nothing.
use Prim.Native.Nat.{ℕ, zero, suc, ◌+◌, ◌*◌, ◌-◌, ◌/◌, ◌%◌, ◌^◌, ◌≤◌, ◌<◌}
use native.Mathlib.Nat.{suc-mul}
use native.Mathlib.Omega.{arith}
use lib.Dec.{ltb, leb}
use lib.Ieee.{fits}
use lib.ListN.{length, take, drop, get_or, take-append-drop}
use mathlib.Core.Path.{◌≡◌, refl, sym, ap, ◌∙◌, subst}
use mathlib.Core.Bool.{Bool, true, false}
use mathlib.Core.List.{List, [], ◌++◌}
use borrow.Author.Tests.{le-leb, leb-true, ltb-true, ltb-false}
use Rattle.number.specs.Ans.{held, ◌>>=◌, demand}
use Rattle.number.specs.Lists.{at}
use Rattle.number.proofs.Walk.{demanded, then_held}
use Rattle.bit_fields.proofs.Bytes.{Bytes}
use Rattle.saftvrmie_parameters.specs.Parameters as Mie
use Rattle.card.specs.Fields.{joined}
use Rattle.card.specs.Card.{Card, older, float, component, layout, read_card}
use Rattle.card.proofs.Fields.{below, layout_length, layout_component, layout_pair}
use Rattle.card_lists.specs.Lists.{column, mie_lists}
use Rattle.card_writer.specs.Writing.{card_bytes, CardRoom, card_stored}
use Rattle.card_of_lists.specs.Cards.{mie_component, pair_rows, mie_card, passed, vr_card}
use Rattle.card_round_trips.proofs.Fields.{Fits}
use Rattle.card_round_trips.proofs.Cards.{Well, written_reads, reads_well, read_writes}
use Rattle.card_round_trips.proofs.Moves.{stores, stored_there}
use Rattle.card_round_trips.proofs.Joined.{cut, take_5, Below}
use Rattle.card_round_trips.proofs.Tested.{pattern_small, MieTested, mie_tested}
use Rattle.card_round_trips.proofs.Values.{Floats, column_at, value_back, rows_back, column_back, pairs_back, numbers_length, component_entry, pair_entry_is, numbers_small, values_small}

-- each number of the lists is an f64: what the code's lists keep
pub record MieFloats (x : Mie.Lists) : Type 0 where
  pub m : Floats x.m
  pub sigma : Floats x.sigma
  pub epsilon_k : Floats x.epsilon_k
  pub lr : Floats x.lr
  pub la : Floats x.la
  pub k_ij : Floats x.k_ij
  pub gamma_ij : Floats x.gamma_ij

-- ---- from a card to lists and back
module _ (n : ℕ) (v : List ℕ) (w : Well older (record { kind = 1; count = n; values = v })) (t : MieTested (mie_lists (record { kind = 1; count = n; values = v }))) where
  whole : length v ≡ n * 5 + n * (n - 1)
  whole = w.fits.same ∙ layout_length older 1 n

  small : (k : ℕ) → get_or v k 0 < 2 ^ 64
  small = values_small older 1 n v w.fits

  components_back : joined n (mie_component (column v 5 n 0) (column v 5 n 1) (column v 5 n 2) (column v 5 n 3) (column v 5 n 4)) ≡ take (n * 5) v
  unfolding mie_component mie_lists
  components_back =
      cut (λ i. i * 5) (λ _. 5) (mie_component (column v 5 n 0) (column v 5 n 1) (column v 5 n 2) (column v 5 n 3) (column v 5 n 4)) v n (omega arith) (λ i h. suc-mul i 5) (λ i h. five i h)
    where
      five : (i : ℕ) → i < n → mie_component (column v 5 n 0) (column v 5 n 1) (column v 5 n 2) (column v 5 n 3) (column v 5 n 4) i ≡ take 5 (drop (i * 5) v)
      five i h =
          let c = t.component i h in
          let b = below i n 5 4 h (omega arith) in
          let a₀ = column_at v 5 n 0 i h in
          let a₁ = column_at v 5 n 1 i h in
          let a₂ = column_at v 5 n 2 i h in
          let a₃ = column_at v 5 n 3 i h in
          let a₄ = column_at v 5 n 4 i h in
          let b₀ = value_back v (i * 5 + 0) (small (i * 5 + 0)) (rw a₀ at (t.m i h)) in
          let b₁ = value_back v (i * 5 + 1) (small (i * 5 + 1)) (rw a₁ at c.sigma) in
          let b₂ = value_back v (i * 5 + 2) (small (i * 5 + 2)) (rw a₂ at c.epsilon_k) in
          let b₃ = value_back v (i * 5 + 3) (small (i * 5 + 3)) (rw a₃ at c.lr) in
          let b₄ = value_back v (i * 5 + 4) (small (i * 5 + 4)) (rw a₄ at c.la) in
          rw (a₀, a₁, a₂, a₃, a₄, b₀, b₁, b₂, b₃, b₄) (sym (take_5 (i * 5) v (omega (arith, b, whole))))

  pub mie_back : mie_card (mie_lists (record { kind = 1; count = n; values = v })) ≡ record { kind = 1; count = n; values = v }
  unfolding mie_card mie_lists
  mie_back = rw (components_back, rows_back v (n * 5) n whole small t.k_ij t.gamma_ij, take-append-drop (n * 5) v)

-- ---- from lists to a card and back
module _ (x : Mie.Lists) (f : MieFloats x) (t : MieTested x) where
  abbrev n : ℕ
  n = x.count

  abbrev part : ℕ → List ℕ
  part = mie_component x.m x.sigma x.epsilon_k x.lr x.la

  abbrev v : List ℕ
  v = joined n part ++ pair_rows n x.k_ij x.gamma_ij

  five : (i : ℕ) → length (part i) ≡ 5
  unfolding mie_component
  five i = refl

  entry : (i e : ℕ) → i < n → e < 5 → get_or v (i * 5 + e) 0 ≡ get_or (part i) e 0
  entry i e h g = component_entry n 5 part five x.k_ij x.gamma_ij i e h g

  pub mie_lists_again : mie_lists (mie_card x) ≡ x
  unfolding mie_lists mie_card mie_component
  mie_lists_again =
      let l = t.lengths in
      let a₁ = column_back v 5 n 0 x.m l.m f.m (λ i h. entry i 0 h (omega arith)) in
      let a₂ = column_back v 5 n 1 x.sigma l.sigma f.sigma (λ i h. entry i 1 h (omega arith)) in
      let a₃ = column_back v 5 n 2 x.epsilon_k l.epsilon_k f.epsilon_k (λ i h. entry i 2 h (omega arith)) in
      let a₄ = column_back v 5 n 3 x.lr l.lr f.lr (λ i h. entry i 3 h (omega arith)) in
      let a₅ = column_back v 5 n 4 x.la l.la f.la (λ i h. entry i 4 h (omega arith)) in
      let k = pairs_back v (n * 5) n 0 x.k_ij l.k_ij f.k_ij t.k_ij (λ i d h. pair_entry_is n 5 part five x.k_ij x.gamma_ij i d 0 h (omega arith)) in
      let m = pairs_back v (n * 5) n 1 x.gamma_ij l.gamma_ij f.gamma_ij t.gamma_ij (λ i d h. pair_entry_is n 5 part five x.k_ij x.gamma_ij i d 1 h (omega arith)) in
      rw (a₁, a₂, a₃, a₄, a₅, k, m)

  component_small : (i e : ℕ) → i < n → e < 5 → get_or (part i) e 0 < 2 ^ (get_or (component 1) e float).width
  unfolding mie_component component
  component_small i zero h g = pattern_small (at x.m i) (f.m i)
  component_small i (suc zero) h g = pattern_small (at x.sigma i) (f.sigma i)
  component_small i (suc (suc zero)) h g = pattern_small (at x.epsilon_k i) (f.epsilon_k i)
  component_small i (suc (suc (suc zero))) h g = pattern_small (at x.lr i) (f.lr i)
  component_small i (suc (suc (suc (suc zero)))) h g = pattern_small (at x.la i) (f.la i)
  component_small i (suc (suc (suc (suc (suc e))))) h g = absurd (omega arith)

  part_small : (i : ℕ) → i < n → Below (2 ^ 64) (part i)
  unfolding mie_component
  part_small i h zero = pattern_small (at x.m i) (f.m i)
  part_small i h (suc zero) = pattern_small (at x.sigma i) (f.sigma i)
  part_small i h (suc (suc zero)) = pattern_small (at x.epsilon_k i) (f.epsilon_k i)
  part_small i h (suc (suc (suc zero))) = pattern_small (at x.lr i) (f.lr i)
  part_small i h (suc (suc (suc (suc zero)))) = pattern_small (at x.la i) (f.la i)
  part_small i h (suc (suc (suc (suc (suc e))))) = omega arith

  numbers_fit : Fits (layout older 1 n) v
  numbers_fit = record { same = numbers_length n 5 part five x.k_ij x.gamma_ij ∙ sym (layout_length older 1 n); small = λ k p. either k p (ltb k (n * 5)) refl }
    where
      either : (k : ℕ) → k < length (layout older 1 n) → (b : Bool) → ltb k (n * 5) ≡ b → get_or v k 0 < 2 ^ (get_or (layout older 1 n) k float).width
      either k p true e =
          let q = ltb-true k (n * 5) e in
          let i = k / 5 in
          let r = k % 5 in
          let d : i * 5 + r ≡ k = omega arith in
          let h : i < n = omega (arith, q) in
          let g : r < 5 = omega arith in
          subst (λ (m : ℕ). get_or v m 0 < 2 ^ (get_or (layout older 1 n) m float).width) d
          (rw (entry i r h g, layout_component older 1 n i r h g) (component_small i r h g))
      either k p false e =
          let q = ltb-false k (n * 5) e in
          let d : n * 5 + (k - n * 5) ≡ k = omega (arith, q) in
          let l = rw (layout_length older 1 n) at p in
          let a = rw d at (layout_pair older 1 n (k - n * 5) (omega (arith, l, q))) in
          rw a (numbers_small n 5 part five x.k_ij x.gamma_ij f.k_ij f.gamma_ij part_small k)

  pub mie_well : n ≤ 8 → Well older (mie_card x)
  unfolding mie_card
  mie_well h = record { kind_low = omega arith; some = t.lengths.some; most = h; fits = numbers_fit }

kind_of : (x : Mie.Lists) → (mie_card x).kind ≡ 1
unfolding mie_card
kind_of x = refl

count_of : (c : Card) → (mie_lists c).count ≡ c.count
unfolding mie_lists
count_of c = refl

card_back : (c : Card) → Well older c → c.kind ≡ 1 → MieTested (mie_lists c) → mie_card (mie_lists c) ≡ c
unfolding mie_lists
card_back c w z t =
    let e : ◌≡◌ {A = Card} (record { kind = 1; count = c.count; values = c.values }) c = ap (λ (k : ℕ). record { kind = k; count = c.count; values = c.values }) (sym z) in
    mie_back c.count c.values (subst (Well older) (sym e) w) t ∙ e

-- ---- 'Every card so written reads well, its lists having the same bits', and behind it lies what lay there
pub record VrWritten (x : Mie.Lists) (room after : CardRoom) : Type 0 where
  pub said : Card
  pub reads : read_card older (take after.length after.card) ≡ held said
  pub model : said.kind ≡ 1
  pub lists : mie_lists said ≡ x
  pub behind : drop after.length after.card ≡ drop after.length room.card
  pub same_length : length after.card ≡ length room.card

pub vr_written : (x : Mie.Lists) (room after : CardRoom) → MieFloats x → vr_card x room ≡ held after → VrWritten x room after
unfolding vr_card
vr_written x room after f p =
    let a = then_held (passed (Mie.saft_vr_mie_pars x)) _ after p in
    let b = then_held (demand 10 (leb x.count older.most)) _ after a.2 in
    let t = mie_tested x a.0 a.1 in
    let few = leb-true x.count 8 (demanded 10 (leb x.count 8) b.0 b.1) in
    let s = stores (card_bytes older (mie_card x)) room after b.2 in
    record {
      said = mie_card x;
      reads = rw s.written (written_reads false (mie_card x) (mie_well x f t few));
      model = kind_of x;
      lists = mie_lists_again x f t;
      behind = s.behind;
      same_length = s.same_length;
    }

vr_goes : (x : Mie.Lists) (b : Bool) (room : CardRoom) → passed (Mie.saft_vr_mie_pars x) ≡ held b → x.count ≤ 8 → vr_card x room ≡ card_stored (card_bytes older (mie_card x)) room
unfolding vr_card demand ◌>>=◌
vr_goes x b room q h = rw (q, le-leb x.count 8 h)

-- ---- 'every card that reads well and whose lists pass those tests is written back unchanged'
pub vr_unchanged : (l : List ℕ) (c : Card) (b : Bool) (room : CardRoom) → Bytes l → read_card older l ≡ held c → c.kind ≡ 1 → passed (Mie.saft_vr_mie_pars (mie_lists c)) ≡ held b → length l ≤ length room.card
    → vr_card (mie_lists c) room ≡ held (record { card = l ++ drop (length l) room.card; length = length l })
vr_unchanged l c b room w p z q h =
    let e = reads_well older l c p in
    let n = count_of c in
    let k = card_back c e z (mie_tested (mie_lists c) b q) in
    let d : card_bytes older (mie_card (mie_lists c)) ≡ l = ap (card_bytes older) k ∙ read_writes older l c p w in
    vr_goes (mie_lists c) b room q (rw n e.most) ∙ rw d (stored_there l room h)
