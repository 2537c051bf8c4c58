-- Slip 6, quantum: a written card reads as the same lists, and a card that reads well and passes the tests is written back unchanged. Assumes nothing.
use Prim.Native.Nat.{ℕ, zero, suc, ◌+◌, ◌*◌, ◌-◌, ◌/◌, ◌%◌, ◌^◌, ◌≤◌, ◌<◌}
use native.Mathlib.Nat.{suc-mul, mod-eq_of_lt, le_of_eq}
use native.Mathlib.Omega.{arith}
use lib.Dec.{ltb, leb}
use lib.Ieee.{Float, nan, fits}
use lib.ListN.{length, take, drop, get_or, take-append-drop}
use lib.Seq.{take_all}
use mathlib.Core.Path.{◌≡◌, refl, sym, ap, ◌∙◌, subst}
use mathlib.Core.Bool.{Bool, true, false}
use mathlib.Core.List.{List, [], ◌∷◌, ◌++◌}
use borrow.Author.Tests.{le-leb, leb-true, ltb-true, ltb-false}
use Rattle.number.specs.Ans.{held, ◌>>=◌, demand}
use Rattle.number.specs.Arith.{decimal}
use Rattle.number.specs.Lists.{at}
use Rattle.number.proofs.Walk.{demanded, then_held}
use Rattle.bit_fields.proofs.Bytes.{Bytes}
use Rattle.saftvrqmie_parameters.specs.Parameters as Quantum
use Rattle.card.specs.Fields.{joined}
use Rattle.card.specs.Card.{Card, older, float, component, layout, read_card}
use Rattle.card.proofs.Fields.{below, layout_length, layout_component, layout_pair}
use Rattle.card_lists.specs.Lists.{column, orders, ones, quantum_lists}
use Rattle.card_writer.specs.Writing.{card_bytes, CardRoom, card_stored}
use Rattle.card_of_lists.specs.Cards.{quantum_component, pair_rows, quantum_card, passed, vrq_card}
use Rattle.card_round_trips.proofs.Fields.{Fits}
use Rattle.card_round_trips.proofs.Cards.{Well, written_reads, reads_well, read_writes}
use Rattle.card_round_trips.proofs.Moves.{stores, stored_there}
use Rattle.card_round_trips.proofs.Joined.{joined_same, singles, cut, take_6, Below}
use Rattle.card_round_trips.proofs.Tested.{pattern_small, only_one, QuantumTested, quantum_tested}
use Rattle.card_round_trips.proofs.Values.{Floats, column_at, orders_at_entry, value_back, rows_back, column_back, pairs_back, numbers_length, component_entry, pair_entry_is, numbers_small, values_small}

-- each number of the lists is an f64: what the code's lists keep
pub record QuantumFloats (x : Quantum.Lists) : Type 0 where
  pub m : Floats x.m
  pub sigma : Floats x.sigma
  pub epsilon_k : Floats x.epsilon_k
  pub lr : Floats x.lr
  pub la : Floats x.la
  pub mass : Floats x.mass
  pub k_ij : Floats x.k_ij
  pub l_ij : Floats x.l_ij

-- ---- from a card to lists and back
module _ (n : ℕ) (v : List ℕ) (w : Well older (record { kind = 0; count = n; values = v })) (t : QuantumTested (quantum_lists (record { kind = 0; count = n; values = v }))) where
  whole : length v ≡ n * 6 + n * (n - 1)
  whole = w.fits.same ∙ layout_length older 0 n

  small : (k : ℕ) → get_or v k 0 < 2 ^ 64
  small = values_small older 0 n v w.fits

  order_small : (i : ℕ) → i < n → get_or v (i * 6 + 5) 0 < 4
  unfolding component
  order_small i h =
      let a = layout_component older 0 n i 5 h (omega arith) in
      let b = below i n 6 5 h (omega arith) in
      let s = layout_length older 0 n in
      rw a at (w.fits.small (i * 6 + 5) (rw s (omega (arith, b))))

  components_back : joined n (quantum_component (column v 6 n 0) (column v 6 n 1) (column v 6 n 2) (column v 6 n 3) (column v 6 n 4) (orders v n)) ≡ take (n * 6) v
  unfolding quantum_component quantum_lists
  components_back =
      cut (λ i. i * 6) (λ _. 6) (quantum_component (column v 6 n 0) (column v 6 n 1) (column v 6 n 2) (column v 6 n 3) (column v 6 n 4) (orders v n)) v n (omega arith) (λ i h. suc-mul i 6) (λ i h. six i h)
    where
      six : (i : ℕ) → i < n → quantum_component (column v 6 n 0) (column v 6 n 1) (column v 6 n 2) (column v 6 n 3) (column v 6 n 4) (orders v n) i ≡ take 6 (drop (i * 6) v)
      six i h =
          let c = t.component i h in
          let b = below i n 6 5 h (omega arith) in
          let a₀ = column_at v 6 n 0 i h in
          let a₁ = column_at v 6 n 1 i h in
          let a₂ = column_at v 6 n 2 i h in
          let a₃ = column_at v 6 n 3 i h in
          let a₄ = column_at v 6 n 4 i h in
          let b₀ = value_back v (i * 6 + 0) (small (i * 6 + 0)) (rw a₀ at c.sigma) in
          let b₁ = value_back v (i * 6 + 1) (small (i * 6 + 1)) (rw a₁ at c.epsilon_k) in
          let b₂ = value_back v (i * 6 + 2) (small (i * 6 + 2)) (rw a₂ at c.lr) in
          let b₃ = value_back v (i * 6 + 3) (small (i * 6 + 3)) (rw a₃ at c.la) in
          let b₄ = value_back v (i * 6 + 4) (small (i * 6 + 4)) (rw a₄ at (t.mass i h)) in
          rw (a₀, a₁, a₂, a₃, a₄, b₀, b₁, b₂, b₃, b₄, orders_at_entry v n i h, mod-eq_of_lt (order_small i h)) (sym (take_6 (i * 6) v (omega (arith, b, whole))))

  pub quantum_back : quantum_card (quantum_lists (record { kind = 0; count = n; values = v })) ≡ record { kind = 0; count = n; values = v }
  unfolding quantum_card quantum_lists
  quantum_back = rw (components_back, rows_back v (n * 6) n whole small t.k_ij t.l_ij, take-append-drop (n * 6) v)

-- ---- from lists to a card and back
module _ (x : Quantum.Lists) (f : QuantumFloats x) (t : QuantumTested x) where
  abbrev n : ℕ
  n = x.count

  abbrev part : ℕ → List ℕ
  part = quantum_component x.sigma x.epsilon_k x.lr x.la x.mass x.fh

  abbrev v : List ℕ
  v = joined n part ++ pair_rows n x.k_ij x.l_ij

  six : (i : ℕ) → length (part i) ≡ 6
  unfolding quantum_component
  six i = refl

  entry : (i e : ℕ) → i < n → e < 6 → get_or v (i * 6 + e) 0 ≡ get_or (part i) e 0
  entry i e h g = component_entry n 6 part six x.k_ij x.l_ij i e h g

  orders_back : orders v n ≡ x.fh
  unfolding orders quantum_component
  orders_back =
      let l = t.lengths.fh in
      joined_same n (λ i. get_or v (i * 6 + 5) 0 % 4 ∷ []) (λ i. get_or x.fh i 0 ∷ [])
      (λ i h. let b = t.fh i h in let c : get_or x.fh i 0 < 4 = omega (arith, b) in ap (λ (k : ℕ). k ∷ []) (ap (λ (k : ℕ). k % 4) (entry i 5 h (omega arith)) ∙ mod-eq_of_lt c))
      ∙ singles 0 x.fh n (le_of_eq (sym l))
      ∙ take_all n x.fh (le_of_eq l)

  ones_back : ones n ≡ x.m
  unfolding ones
  ones_back =
      let l = t.lengths.m in
      joined_same n (λ _. decimal false 1 0 ∷ []) (λ i. at x.m i ∷ []) (λ i h. ap (λ (y : Float). y ∷ []) (sym (only_one (at x.m i) (f.m i) (t.m i h))))
      ∙ singles nan x.m n (le_of_eq (sym l))
      ∙ take_all n x.m (le_of_eq l)

  pub quantum_lists_again : quantum_lists (quantum_card x) ≡ x
  unfolding quantum_lists quantum_card quantum_component
  quantum_lists_again =
      let l = t.lengths in
      let a₁ = column_back v 6 n 0 x.sigma l.sigma f.sigma (λ i h. entry i 0 h (omega arith)) in
      let a₂ = column_back v 6 n 1 x.epsilon_k l.epsilon_k f.epsilon_k (λ i h. entry i 1 h (omega arith)) in
      let a₃ = column_back v 6 n 2 x.lr l.lr f.lr (λ i h. entry i 2 h (omega arith)) in
      let a₄ = column_back v 6 n 3 x.la l.la f.la (λ i h. entry i 3 h (omega arith)) in
      let a₅ = column_back v 6 n 4 x.mass l.mass f.mass (λ i h. entry i 4 h (omega arith)) in
      let k = pairs_back v (n * 6) n 0 x.k_ij l.k_ij f.k_ij t.k_ij (λ i d h. pair_entry_is n 6 part six x.k_ij x.l_ij i d 0 h (omega arith)) in
      let m = pairs_back v (n * 6) n 1 x.l_ij l.l_ij f.l_ij t.l_ij (λ i d h. pair_entry_is n 6 part six x.k_ij x.l_ij i d 1 h (omega arith)) in
      rw (a₁, a₂, a₃, a₄, a₅, k, m, orders_back, ones_back)

  component_small : (i e : ℕ) → i < n → e < 6 → get_or (part i) e 0 < 2 ^ (get_or (component 0) e float).width
  unfolding quantum_component component
  component_small i zero h g = pattern_small (at x.sigma i) (f.sigma i)
  component_small i (suc zero) h g = pattern_small (at x.epsilon_k i) (f.epsilon_k i)
  component_small i (suc (suc zero)) h g = pattern_small (at x.lr i) (f.lr i)
  component_small i (suc (suc (suc zero))) h g = pattern_small (at x.la i) (f.la i)
  component_small i (suc (suc (suc (suc zero)))) h g = pattern_small (at x.mass i) (f.mass i)
  component_small i (suc (suc (suc (suc (suc zero))))) h g = let b = t.fh i h in omega (arith, b)
  component_small i (suc (suc (suc (suc (suc (suc e)))))) h g = absurd (omega arith)

  part_small : (i : ℕ) → i < n → Below (2 ^ 64) (part i)
  unfolding quantum_component
  part_small i h zero = pattern_small (at x.sigma i) (f.sigma i)
  part_small i h (suc zero) = pattern_small (at x.epsilon_k i) (f.epsilon_k i)
  part_small i h (suc (suc zero)) = pattern_small (at x.lr i) (f.lr i)
  part_small i h (suc (suc (suc zero))) = pattern_small (at x.la i) (f.la i)
  part_small i h (suc (suc (suc (suc zero)))) = pattern_small (at x.mass i) (f.mass i)
  part_small i h (suc (suc (suc (suc (suc zero))))) = let b = t.fh i h in omega (arith, b)
  part_small i h (suc (suc (suc (suc (suc (suc e)))))) = omega arith

  numbers_fit : Fits (layout older 0 n) v
  numbers_fit = record { same = numbers_length n 6 part six x.k_ij x.l_ij ∙ sym (layout_length older 0 n); small = λ k p. either k p (ltb k (n * 6)) refl }
    where
      either : (k : ℕ) → k < length (layout older 0 n) → (b : Bool) → ltb k (n * 6) ≡ b → get_or v k 0 < 2 ^ (get_or (layout older 0 n) k float).width
      either k p true e =
          let q = ltb-true k (n * 6) e in
          let i = k / 6 in
          let r = k % 6 in
          let d : i * 6 + r ≡ k = omega arith in
          let h : i < n = omega (arith, q) in
          let g : r < 6 = omega arith in
          subst (λ (m : ℕ). get_or v m 0 < 2 ^ (get_or (layout older 0 n) m float).width) d
          (rw (entry i r h g, layout_component older 0 n i r h g) (component_small i r h g))
      either k p false e =
          let q = ltb-false k (n * 6) e in
          let d : n * 6 + (k - n * 6) ≡ k = omega (arith, q) in
          let l = rw (layout_length older 0 n) at p in
          let a = rw d at (layout_pair older 0 n (k - n * 6) (omega (arith, l, q))) in
          rw a (numbers_small n 6 part six x.k_ij x.l_ij f.k_ij f.l_ij part_small k)

  pub quantum_well : n ≤ 8 → Well older (quantum_card x)
  unfolding quantum_card
  quantum_well h = record { kind_low = omega arith; some = t.lengths.some; most = h; fits = numbers_fit }

kind_of : (x : Quantum.Lists) → (quantum_card x).kind ≡ 0
unfolding quantum_card
kind_of x = refl

count_of : (c : Card) → (quantum_lists c).count ≡ c.count
unfolding quantum_lists
count_of c = refl

card_back : (c : Card) → Well older c → c.kind ≡ 0 → QuantumTested (quantum_lists c) → quantum_card (quantum_lists c) ≡ c
unfolding quantum_lists
card_back c w z t =
    let e : ◌≡◌ {A = Card} (record { kind = 0; count = c.count; values = c.values }) c = ap (λ (k : ℕ). record { kind = k; count = c.count; values = c.values }) (sym z) in
    quantum_back c.count c.values (subst (Well older) (sym e) w) t ∙ e

-- ---- 'Every card so written reads well, its lists having the same bits', and behind it lies what lay there
pub record VrqWritten (x : Quantum.Lists) (room after : CardRoom) : Type 0 where
  pub said : Card
  pub reads : read_card older (take after.length after.card) ≡ held said
  pub model : said.kind ≡ 0
  pub lists : quantum_lists said ≡ x
  pub behind : drop after.length after.card ≡ drop after.length room.card
  pub same_length : length after.card ≡ length room.card

pub vrq_written : (x : Quantum.Lists) (room after : CardRoom) → QuantumFloats x → vrq_card x room ≡ held after → VrqWritten x room after
unfolding vrq_card
vrq_written x room after f p =
    let a = then_held (passed (Quantum.saft_vrq_mie_pars x)) _ after p in
    let b = then_held (demand 10 (leb x.count older.most)) _ after a.2 in
    let t = quantum_tested x a.0 a.1 in
    let few = leb-true x.count 8 (demanded 10 (leb x.count 8) b.0 b.1) in
    let s = stores (card_bytes older (quantum_card x)) room after b.2 in
    record {
      said = quantum_card x;
      reads = rw s.written (written_reads false (quantum_card x) (quantum_well x f t few));
      model = kind_of x;
      lists = quantum_lists_again x f t;
      behind = s.behind;
      same_length = s.same_length;
    }

vrq_goes : (x : Quantum.Lists) (b : Bool) (room : CardRoom) → passed (Quantum.saft_vrq_mie_pars x) ≡ held b → x.count ≤ 8 → vrq_card x room ≡ card_stored (card_bytes older (quantum_card x)) room
unfolding vrq_card demand ◌>>=◌
vrq_goes x b room q h = rw (q, le-leb x.count 8 h)

-- ---- 'every card that reads well and whose lists pass those tests is written back unchanged'
pub vrq_unchanged : (l : List ℕ) (c : Card) (b : Bool) (room : CardRoom) → Bytes l → read_card older l ≡ held c → c.kind ≡ 0 → passed (Quantum.saft_vrq_mie_pars (quantum_lists c)) ≡ held b → length l ≤ length room.card
    → vrq_card (quantum_lists c) room ≡ held (record { card = l ++ drop (length l) room.card; length = length l })
vrq_unchanged l c b room w p z q h =
    let e = reads_well older l c p in
    let n = count_of c in
    let k = card_back c e z (quantum_tested (quantum_lists c) b q) in
    let d : card_bytes older (quantum_card (quantum_lists c)) ≡ l = ap (card_bytes older) k ∙ read_writes older l c p w in
    vrq_goes (quantum_lists c) b room q (rw n e.most) ∙ rw d (stored_there l room h)
