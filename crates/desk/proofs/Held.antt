-- A place that holds a query: what it keeps from unit to unit, and that the query is finished with what the direct calls give. Assumes nothing.
use Prim.Native.Nat.{ℕ, zero, suc, ◌+◌, ◌-◌, ◌*◌, ◌≤◌, ◌<◌}
use native.Mathlib.Omega.{arith}
use native.Mathlib.Nat.{mul-suc}
use mathlib.Core.Path.{◌≡◌, refl, sym, ap, ◌∙◌, subst}
use mathlib.Core.Bool.{Bool, true, false, not, ◌&&◌, cond, true≢false}
use mathlib.Core.List.{List, []}
use lib.Dec.{eqb, ltb}
use lib.Ieee.{Float, nan}
use lib.ListN.{length, set, length-set}
use lib.Seq.{get_or-set_same, get_or-set_other}
use borrow.Author.Tests.{eqb-true, ltb-true, ltb-false, lt-ltb, eq-eqb}
use Rattle.std.proofs.lemmas.Bool.{and_parts}
use Rattle.number.specs.Ans.{Ans, held, refused, ◌>>=◌, demand}
use Rattle.number.specs.Lists.{at}
use Rattle.number.proofs.Walk.{demanded, then_held, held_inj}
use Rattle.sizes.specs.Sizes.{side, sheet}
use Rattle.limits.specs.Limits.{count_within, index_within, temperature_within, shares_within, state_within}
use Rattle.mie_parameters.proofs.Laws.{Inside}
use Rattle.saftvrqmie_parameters.specs.declared.SaftVRQMiePars.{SaftVRQMiePars}
use Rattle.saftvrqmie.specs.Table.{Lent, blank, work_turn, work_pairs, table_finite, right_lists}
use Rattle.saftvrqmie.proofs.Laws as Table
use Rattle.saftvrqmie_energies.specs.Energies.{EnergiesIn, energies}
use Rattle.set_lists.specs.Sets.{QuantumLists, quantum_lengths, orders_within, quantum_read, quantum_set}
use Rattle.set_lists.proofs.Sets.{Lengths, lengths}
use Rattle.round_robin.specs.Desk.{going, done}
use Rattle.round_robin.proofs.Bound.{left_in, Goes, goes, ends}
use Rattle.desk_place.specs.Layout.{part, over, Lists, m_at, fractions_at, densities_at, sheets_at, table_at, orders_at, place_bytes, count_in, row_in, column_in, wanted_in, temperature_of, fractions_of, densities_of, table_of, lists_of, set_of, waits_in}
use Rattle.desk_place.specs.Place.{Query, freed, last_pair, moved, answer_of, settled, paired, unit}
use Rattle.desk_place.proofs.Parts.{part_length, over_length, over_before}
use Rattle.desk_place.proofs.Steps.{waits_inside, turn}
use Rattle.desk.specs.Desk.{directly, state_lengths, door}
use Rattle.desk.proofs.Read.{laid_part, over_at_before, set_before}
use Rattle.desk.proofs.Shelf.{Whole}
use Rattle.desk.proofs.Pairs.{Alike, both, neither, turn_alike, SoFar, far_next, far_down, far_all, far_stop}

-- ---- what the door has let pass

pub record Passed (q : Query) : Type 0 where
  pub count : count_within q.lists.count ≡ true
  pub read : quantum_lengths q.lists.m q.lists.sheets q.lists.orders ≡ true
  pub parts : Lengths q.lists.m q.lists.sheets q.lists.orders
  pub fractions : length q.fractions ≡ q.lists.count
  pub densities : length q.densities ≡ q.lists.count
  pub warm : temperature_within q.temperature ≡ true
  pub state : state_within q.lists.count q.temperature q.fractions q.densities ≡ true
  pub set_is : quantum_set true q.lists ≡ held (quantum_read q.lists)

pub state_lengths_told : (n : ℕ) (x rho : List Float) → state_lengths n x rho ≡ true → (length x ≡ n) × (length rho ≡ n)
unfolding state_lengths
state_lengths_told n x rho h =
    let a = eqb (length x) n in
    let b = eqb (length rho) n in
    (eqb-true (length x) n (and_parts a b h).0, eqb-true (length rho) n (and_parts a b h).1)

warm_in : (n : ℕ) (t : Float) (x rho : List Float) → state_within n t x rho ≡ true → temperature_within t ≡ true
unfolding state_within
warm_in n t x rho h =
    let a = temperature_within t in
    let b = shares_within n (at x) in
    let c = shares_within n (at rho) in
    (and_parts a b (and_parts (a && b) c h).0).0

read_is : (l : QuantumLists) → count_within l.count ≡ true → quantum_lengths l.m l.sheets l.orders ≡ true → orders_within l.count l.orders ≡ true → quantum_set true l ≡ held (quantum_read l)
unfolding quantum_set demand ◌>>=◌
read_is l a b c = rw (a, b, c)

pub door_passed : (q : Query) (b : Bool) → door q ≡ held b → Passed q
unfolding door quantum_set
door_passed q b h =
    let l = q.lists in
    let s = state_lengths l.count q.fractions q.densities in
    let e = then_held (quantum_set s l) _ b h in
    let f = then_held (demand 1 (count_within l.count && quantum_lengths l.m l.sheets l.orders && s)) _ e.0 e.1 in
    let g = then_held (demand 4 (orders_within l.count l.orders)) _ e.0 f.2 in
    let one = demanded 1 _ f.0 f.1 in
    let four = demanded 4 _ g.0 g.1 in
    let two = demanded 2 _ b e.2 in
    let a = count_within l.count in
    let c = quantum_lengths l.m l.sheets l.orders in
    let ac = (and_parts (a && c) s one).0 in
    let st = state_lengths_told l.count q.fractions q.densities (and_parts (a && c) s one).1 in
    record {
      count = (and_parts a c ac).0;
      read = (and_parts a c ac).1;
      parts = lengths l.m l.sheets l.orders (and_parts a c ac).1;
      fractions = st.0;
      densities = st.1;
      warm = warm_in l.count q.temperature q.fractions q.densities two;
      state = two;
      set_is = read_is l (and_parts a c ac).0 (and_parts a c ac).1 four;
    }

through : {X : Type 0} {a : Ans X} {x : X} {t : Bool} → a ≡ held x → t ≡ true → (a >>= λ _. demand 2 t) ≡ held true
unfolding ◌>>=◌ demand
through p r = rw (p, r)

pub door_held : (q : Query) (b : Bool) → door q ≡ held b → door q ≡ held true
unfolding door
door_held q b h =
    let e = then_held (quantum_set (state_lengths q.lists.count q.fractions q.densities) q.lists) _ b h in
    let t = demanded 2 (state_within q.lists.count q.temperature q.fractions q.densities) b e.2 in
    through e.1 t

-- a table's worth: 7 where it is not finite, then its energies
abbrev worth : QuantumLists → Float → List Float → List Float → List Float → Bool → Ans (EnergiesIn Float)
worth l t x rho v wanted = demand 7 (table_finite v) >>= λ _. energies (quantum_read l) t x rho v wanted

-- ---- the direct calls, by the walk of the table

module _ (q : Query) (d : Passed q) where
  abbrev pub own : SaftVRQMiePars
  own = quantum_read q.lists

  blank_right : right_lists q.lists.count (length blank.values) (length blank.numbers) ≡ true
  unfolding right_lists
  blank_right = rw d.count

  abbrev walked : Ans Lent
  walked = work_pairs own.count own.sheets own.orders q.temperature blank

  pub direct_stops : (m : ℕ) → walked ≡ refused m → directly q ≡ refused m
  unfolding directly quantum_read ◌>>=◌
  direct_stops m h = rw (d.set_is, Table.refuses_6 own q.temperature blank blank_right d.warm m h)

  pub direct_goes : (w : Lent) → walked ≡ held w → directly q ≡ (demand 7 (table_finite w.values) >>= λ _. energies own q.temperature q.fractions q.densities w.values q.wanted)
  unfolding directly quantum_read ◌>>=◌ demand
  direct_goes w h = way (table_finite w.values) refl
    where
      way : (t : Bool) → table_finite w.values ≡ t → directly q ≡ (demand 7 (table_finite w.values) >>= λ _. energies own q.temperature q.fractions q.densities w.values q.wanted)
      way true e = rw (d.set_is, Table.holds own q.temperature blank blank_right d.warm w h e, e)
      way false e = rw (d.set_is, Table.refuses_7 own q.temperature blank blank_right d.warm w h e, e)

  pub direct_worth : (w : Lent) → work_pairs q.lists.count (quantum_read q.lists).sheets (quantum_read q.lists).orders q.temperature blank ≡ held w
      → directly q ≡ worth q.lists q.temperature q.fractions q.densities w.values q.wanted
  unfolding quantum_read
  direct_worth w g = direct_goes w g

walk_own : (q : Query) (m : ℕ) → work_pairs q.lists.count (quantum_read q.lists).sheets (quantum_read q.lists).orders q.temperature blank ≡ refused m
    → work_pairs (quantum_read q.lists).count (quantum_read q.lists).sheets (quantum_read q.lists).orders q.temperature blank ≡ refused m
unfolding quantum_read
walk_own q m g = g

-- ---- a place that holds a query

-- the rows below whole, and the rest of this one
abbrev pub units_left : ℕ → ℕ → ℕ → ℕ
units_left n i j = n * (n - (i + 1)) + (n - j)

pub record Holds (q : Query) (p : Lists) (u : ℕ) : Type 0 where
  pub passed : Passed q
  pub waits : waits_in p.bytes ≡ true
  pub lists : lists_of p ≡ q.lists
  pub temperature : temperature_of p ≡ q.temperature
  pub fractions : fractions_of p ≡ q.fractions
  pub densities : densities_of p ≡ q.densities
  pub wanted : wanted_in p.bytes ≡ q.wanted
  pub table : Lent
  pub far : SoFar q.lists.count (quantum_read q.lists).sheets (quantum_read q.lists).orders q.temperature (row_in p.bytes) (column_in p.bytes) table
  pub values : table_of p ≡ table.values
  pub left : u ≡ units_left (count_in p.bytes) (row_in p.bytes) (column_in p.bytes)

pub quantum_are : (n k : ℕ) (m l s r : List Float) (o c : List ℕ) → n ≡ k → m ≡ l → s ≡ r → o ≡ c → ◌≡◌ {A = QuantumLists} (record { count = n; m = m; sheets = s; orders = o }) (record { count = k; m = l; sheets = r; orders = c })
quantum_are n k m l s r o c e f g h = rw (e, f, g, h)

-- a place with another table and bytes of the same count, wish and orders
module _ (p : Lists) (w : Whole p) (v : List Float) (long : length v ≡ 4 * sheet) (b : List ℕ) (small : count_in p.bytes ≤ side) (count : count_in b ≡ count_in p.bytes) (orders : part orders_at sheet b ≡ part orders_at sheet p.bytes) where
  abbrev then : Lists
  then = record { floats = over table_at v p.floats; bytes = b }

  fits : table_at + length v ≤ length p.floats
  fits = let a = w.floats in omega (arith, a, long)

  before : (a n : ℕ) → a + n ≤ table_at → part a n (over table_at v p.floats) ≡ part a n p.floats
  before a n h = over_before table_at v p.floats fits a n h

  then_lists : lists_of then ≡ lists_of p
  then_lists = quantum_are _ _ _ _ _ _ _ _ count (before m_at side (omega arith)) (before sheets_at (6 * sheet) (omega arith)) orders

  then_temperature : temperature_of then ≡ temperature_of p
  then_temperature = over_at_before table_at v p.floats 0 nan fits (omega arith)

  then_fractions : fractions_of then ≡ fractions_of p
  then_fractions = ap (λ (n : ℕ). part fractions_at n (over table_at v p.floats)) count ∙ before fractions_at (count_in p.bytes) (omega (arith, small))

  then_densities : densities_of then ≡ densities_of p
  then_densities = ap (λ (n : ℕ). part densities_at n (over table_at v p.floats)) count ∙ before densities_at (count_in p.bytes) (omega (arith, small))

  then_table : table_of then ≡ v
  then_table = laid_part table_at (4 * sheet) v p.floats long (let a = w.floats in omega (arith, a))

-- ---- the answer at the last

answer_by : (p : Lists) (l : QuantumLists) (t : Float) (x rho v : List Float) (wanted : Bool) → lists_of p ≡ l → temperature_of p ≡ t → fractions_of p ≡ x → densities_of p ≡ rho → table_of p ≡ v → wanted_in p.bytes ≡ wanted
    → answer_of p ≡ worth l t x rho v wanted
unfolding answer_of
answer_by p l t x rho v wanted e1 e2 e3 e4 e5 e6 =
    ap (λ (z : QuantumLists). worth z (temperature_of p) (fractions_of p) (densities_of p) (table_of p) (wanted_in p.bytes)) e1
    ∙ ap (λ (z : Float). worth l z (fractions_of p) (densities_of p) (table_of p) (wanted_in p.bytes)) e2
    ∙ ap (λ (z : List Float). worth l t z (densities_of p) (table_of p) (wanted_in p.bytes)) e3
    ∙ ap (λ (z : List Float). worth l t x z (table_of p) (wanted_in p.bytes)) e4
    ∙ ap (λ (z : List Float). worth l t x rho z (wanted_in p.bytes)) e5
    ∙ ap (λ (z : Bool). worth l t x rho v z) e6

-- ---- the next pair

module _ (b : List ℕ) (long : length b ≡ place_bytes) where
  on_count : (v : ℕ) → count_in (set b 2 v) ≡ count_in b
  on_count v = get_or-set_other b 2 0 v 0 (λ e. omega (arith, e))

  on_row : (v : ℕ) → row_in (set b 2 v) ≡ row_in b
  on_row v = get_or-set_other b 2 1 v 0 (λ e. omega (arith, e))

  on_column : (v : ℕ) → column_in (set b 2 v) ≡ v
  on_column v = get_or-set_same b 2 v 0 (omega (arith, long))

  on_wanted : (v : ℕ) → wanted_in (set b 2 v) ≡ wanted_in b
  on_wanted v = ap (λ (n : ℕ). not (eqb n 0)) (get_or-set_other b 2 3 v 0 (λ e. omega (arith, e)))

  on_orders : (v : ℕ) → part orders_at sheet (set b 2 v) ≡ part orders_at sheet b
  on_orders v = set_before orders_at sheet 2 v b (omega arith)

  down_count : (v : ℕ) → count_in (set b 1 v) ≡ count_in b
  down_count v = get_or-set_other b 1 0 v 0 (λ e. omega (arith, e))

  down_row : (v : ℕ) → row_in (set b 1 v) ≡ v
  down_row v = get_or-set_same b 1 v 0 (omega (arith, long))

  down_wanted : (v : ℕ) → wanted_in (set b 1 v) ≡ wanted_in b
  down_wanted v = ap (λ (n : ℕ). not (eqb n 0)) (get_or-set_other b 1 3 v 0 (λ e. omega (arith, e)))

  down_orders : (v : ℕ) → part orders_at sheet (set b 1 v) ≡ part orders_at sheet b
  down_orders v = set_before orders_at sheet 1 v b (omega arith)

pub waits_by : (b : List ℕ) (n i j : ℕ) → count_in b ≡ n → row_in b ≡ i → column_in b ≡ j → count_within n ≡ true → i < n → j < n → waits_in b ≡ true
unfolding waits_in index_within
waits_by b n i j e f g c h k = rw (e, f, g, c, lt-ltb i n h, lt-ltb j n k)

-- one unit less
on_left : (k n j : ℕ) → j + 1 < n → k + (n - j) ≡ suc (k + (n - (j + 1)))
on_left k n j h = omega arith

down_left : (n i j : ℕ) → i + 1 < n → j + 1 ≡ n → units_left n i j ≡ suc (units_left n (i + 1) 0)
down_left n i j h e =
    let f : n - (i + 1) ≡ suc (n - (i + 1 + 1)) = omega arith in
    let g : n * (n - (i + 1)) ≡ n * (n - (i + 1 + 1)) + n = ap (λ (m : ℕ). n * m) f ∙ mul-suc n (n - (i + 1 + 1)) in
    omega (arith, g, e)

ends_at : {P A : Type 0} (H : P → ℕ → Type 0) (answer : A) (u : ℕ) (p : P) (a : A) → 1 ≤ u → a ≡ answer → Goes H answer u (done p a)
ends_at H answer zero p a h e = absurd (omega (arith, h))
ends_at H answer (suc u) p a h e = ends e

goes_at : {P A : Type 0} (H : P → ℕ → Type 0) (answer : A) (u v : ℕ) (p : P) → u ≡ suc v → H p v → Goes H answer u (going p)
goes_at H answer u v p e h = subst (λ (n : ℕ). Goes H answer n (going p)) (sym e) (goes h)

-- ---- one unit

module _ (q : Query) (p : Lists) (u : ℕ) (w : Whole p) (h : Holds q p u) where
  abbrev b : List ℕ
  b = p.bytes

  abbrev n : ℕ
  n = count_in b

  abbrev i : ℕ
  i = row_in b

  abbrev j : ℕ
  j = column_in b

  in_hand : Inside n i j
  in_hand = waits_inside b h.waits

  count_is : n ≡ q.lists.count
  count_is = ap (λ (l : QuantumLists). l.count) h.lists

  some_left : 1 ≤ u
  some_left = let e = h.left in let x = in_hand.column in omega (arith, e, x)

  abbrev given : Lent
  given = record { values = table_of p; numbers = [] }

  turn_is : turn p ≡ work_turn (quantum_read q.lists).sheets (quantum_read q.lists).orders q.temperature i j given
  turn_is =
      ap (λ (l : QuantumLists). work_turn (quantum_read l).sheets (quantum_read l).orders (temperature_of p) i j given) h.lists
      ∙ ap (λ (t : Float). work_turn (quantum_read q.lists).sheets (quantum_read q.lists).orders t i j given) h.temperature

  -- a 6 is the direct calls' own
  unit_stops : (m : ℕ) → turn p ≡ refused m → work_turn (quantum_read q.lists).sheets (quantum_read q.lists).orders q.temperature i j h.table ≡ refused m → Goes (Holds q) (directly q) u (unit p)
  unfolding unit paired
  unit_stops m e f =
      let g = far_stop q.lists.count _ _ q.temperature i j m h.table h.far (subst (λ (k : ℕ). i < k) count_is in_hand.row) (subst (λ (k : ℕ). j < k) count_is in_hand.column) f in
      rw e (ends_at (Holds q) (directly q) u _ _ some_left (sym (direct_stops q h.passed m (walk_own q m g))))

  module _ (x y : Lent) (same : x.values ≡ y.values) (long : length x.values ≡ 4 * sheet)
      (next : SoFar q.lists.count (quantum_read q.lists).sheets (quantum_read q.lists).orders q.temperature i (j + 1) y) where
    abbrev stored : List Float
    stored = over table_at x.values p.floats

    high : n ≤ side
    high = in_hand.high

    -- the last pair: the whole table, and its energies
    last_answer : i + 1 ≡ n → j + 1 ≡ n → answer_of (record { floats = stored; bytes = b }) ≡ directly q
    last_answer e f =
        let g = far_all q.lists.count _ _ q.temperature i (j + 1) y next (e ∙ count_is) (f ∙ count_is) in
        answer_by _ q.lists q.temperature q.fractions q.densities y.values q.wanted
        (then_lists p w x.values long b high refl refl ∙ h.lists)
        (then_temperature p w x.values long b high refl refl ∙ h.temperature)
        (then_fractions p w x.values long b high refl refl ∙ h.fractions)
        (then_densities p w x.values long b high refl refl ∙ h.densities)
        (then_table p w x.values long b high refl refl ∙ same)
        h.wanted
        ∙ sym (direct_worth q h.passed y g)

    -- with other bytes: the pair (k, m) in hand
    holds_next : (c : List ℕ) (k m v : ℕ) → count_in c ≡ n → row_in c ≡ k → column_in c ≡ m → wanted_in c ≡ wanted_in b → part orders_at sheet c ≡ part orders_at sheet b → k < n → m < n
        → SoFar q.lists.count (quantum_read q.lists).sheets (quantum_read q.lists).orders q.temperature k m y → v ≡ units_left n k m → Holds q (record { floats = stored; bytes = c }) v
    holds_next c k m v ec ek em ew eo hk hm far left =
        record {
          passed = h.passed;
          waits = waits_by c n k m ec ek em (subst (λ (z : ℕ). count_within z ≡ true) (sym count_is) h.passed.count) hk hm;
          lists = then_lists p w x.values long c high ec eo ∙ h.lists;
          temperature = then_temperature p w x.values long c high ec eo ∙ h.temperature;
          fractions = then_fractions p w x.values long c high ec eo ∙ h.fractions;
          densities = then_densities p w x.values long c high ec eo ∙ h.densities;
          wanted = ew ∙ h.wanted;
          table = y;
          far = rw (ek, em) far;
          values = then_table p w x.values long c high ec eo ∙ same;
          left = left ∙ sym (rw (ec, ek, em));
        }

    -- the next pair comes in hand
    move : (t : Bool) → ltb (j + 1) n ≡ t → last_pair b ≡ false → Goes (Holds q) (directly q) u (going (record { floats = stored; bytes = moved b }))
    unfolding moved last_pair
    move true e f =
        let k = ltb-true (j + 1) n e in
        let long-b = w.bytes in
        rw e
        (goes_at (Holds q) (directly q) u (units_left n i (j + 1)) _ (h.left ∙ on_left (n * (n - (i + 1))) n j k)
        (holds_next (set b 2 (j + 1)) i (j + 1) (units_left n i (j + 1)) (on_count b long-b (j + 1)) (on_row b long-b (j + 1)) (on_column b long-b (j + 1)) (on_wanted b long-b (j + 1)) (on_orders b long-b (j + 1)) in_hand.row k next refl))
    move false e f =
        let r = in_hand.row in
        let c = in_hand.column in
        let g = ltb-false (j + 1) n e in
        let k : j + 1 ≡ n = omega (arith, g, c) in
        let not_last : i + 1 ≡ n → ⊥ = λ z. true≢false (sym (both_true (eqb (i + 1) n) (eqb (j + 1) n) (eq-eqb (i + 1) n z) (eq-eqb (j + 1) n k)) ∙ f) in
        let d : i + 1 < n = omega (arith, r, not_last) in
        let long-b = w.bytes in
        let b1 = set b 1 (i + 1) in
        let long-1 : length b1 ≡ place_bytes = length-set b 1 (i + 1) ∙ long-b in
        rw e
        (goes_at (Holds q) (directly q) u (units_left n (i + 1) 0) _ (h.left ∙ down_left n i j d k)
        (holds_next (set b1 2 0) (i + 1) 0 (units_left n (i + 1) 0)
        (on_count b1 long-1 0 ∙ down_count b long-b (i + 1))
        (on_row b1 long-1 0 ∙ down_row b long-b (i + 1))
        (on_column b1 long-1 0)
        (on_wanted b1 long-1 0 ∙ down_wanted b long-b (i + 1))
        (on_orders b1 long-1 0 ∙ down_orders b long-b (i + 1))
        d
        (omega (arith, d))
        (far_down q.lists.count _ _ q.temperature i (j + 1) y next (k ∙ count_is))
        refl))
      where
        both_true : (a c : Bool) → a ≡ true → c ≡ true → (a && c) ≡ true
        both_true a c e f = rw (e, f)

    last_both : last_pair b ≡ true → (i + 1 ≡ n) × (j + 1 ≡ n)
    unfolding last_pair
    last_both e = (eqb-true (i + 1) n (and_parts (eqb (i + 1) n) (eqb (j + 1) n) e).0, eqb-true (j + 1) n (and_parts (eqb (i + 1) n) (eqb (j + 1) n) e).1)

    settle : (t : Bool) → last_pair b ≡ t → Goes (Holds q) (directly q) u (settled (record { floats = stored; bytes = b }))
    unfolding settled
    settle true e = rw e (ends_at (Holds q) (directly q) u _ _ some_left (let f = last_both e in last_answer f.0 f.1))
    settle false e = rw e (move (ltb (j + 1) n) refl e)

  unit_held : (x : Lent) → turn p ≡ held x → Goes (Holds q) (directly q) u (settled (record { floats = over table_at x.values p.floats; bytes = b })) → Goes (Holds q) (directly q) u (unit p)
  unfolding unit paired
  unit_held x e g = rw e g

  by_turn : Alike (work_turn (quantum_read q.lists).sheets (quantum_read q.lists).orders q.temperature i j given) (work_turn (quantum_read q.lists).sheets (quantum_read q.lists).orders q.temperature i j h.table) (table_of p)
      → Goes (Holds q) (directly q) u (unit p)
  by_turn (neither m e f) = unit_stops m (turn_is ∙ e) f
  by_turn (both x y e f same long) =
      unit_held x (turn_is ∙ e)
      (settle x y same (long ∙ part_length table_at (4 * sheet) p.floats (let a = w.floats in omega (arith, a)))
      (far_next q.lists.count _ _ q.temperature i j h.table y h.far f)
      (last_pair b) refl)

  pub unit_goes : Goes (Holds q) (directly q) u (unit p)
  unit_goes = by_turn (turn_alike q.lists.count _ _ q.temperature i j given h.table h.values)

-- ---- lengths

moved_length : (b : List ℕ) → length (moved b) ≡ length b
unfolding moved
moved_length b = way (ltb (column_in b + 1) (count_in b))
  where
    way : (t : Bool) → length (cond t (set b 2 (column_in b + 1)) (set (set b 1 (row_in b + 1)) 2 0)) ≡ length b
    way true = simp length-set
    way false = simp length-set

settled_whole : (p : Lists) → Whole p → Whole (left_in (settled p))
unfolding settled
settled_whole p w = way (last_pair p.bytes)
  where
    way : (t : Bool) → Whole (left_in (cond t (done (record { floats = p.floats; bytes = freed p.bytes }) (answer_of p)) (going (record { floats = p.floats; bytes = moved p.bytes }))))
    way true = record { floats = w.floats; bytes = length-set p.bytes 0 0 ∙ w.bytes }
    way false = record { floats = w.floats; bytes = moved_length p.bytes ∙ w.bytes }

paired_fits : (p : Lists) → Whole p → (x : Lent) → Alike (held x) (held x) (table_of p) → table_at + length x.values ≤ length p.floats
paired_fits p w x (both y z e f same long) =
    let a = w.floats in
    let l = part_length table_at (4 * sheet) p.floats (omega (arith, a)) in
    let s = ap (λ (m : Lent). length m.values) (held_inj x y e) in
    omega (arith, a, l, s, long)
paired_fits p w x (neither m e f) = absurd (never e)
  where
    never : held x ≡ refused m → ⊥
    never e = let z : ◌≡◌ {A = ℕ} 0 1 = cc in omega arith

paired_whole : (p : Lists) → Whole p → (a : Ans Lent) → Alike a a (table_of p) → Whole (left_in (paired p a))
unfolding paired
paired_whole p w (refused m) k = record { floats = w.floats; bytes = length-set p.bytes 0 0 ∙ w.bytes }
paired_whole p w (held x) k = settled_whole _ (record { floats = over_length table_at x.values p.floats (paired_fits p w x k) ∙ w.floats; bytes = w.bytes })

pub unit_whole : (p : Lists) → Whole p → Whole (left_in (unit p))
unfolding unit
unit_whole p w = paired_whole p w (turn p) (turn_alike 0 (set_of p).sheets (set_of p).orders (temperature_of p) (row_in p.bytes) (column_in p.bytes) (record { values = table_of p; numbers = [] }) (record { values = table_of p; numbers = [] }) refl)
