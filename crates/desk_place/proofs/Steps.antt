-- A unit, and a query that comes in, step by step over plain values. Assumes nothing.
use Prim.Native.Nat.{ℕ, ◌+◌, ◌-◌, ◌*◌, ◌≤◌, ◌<◌}
use Rattle.std.specs.Prelude.{Err, Ok, Result}
use Rattle.number.specs.Answer.{code}
use Rattle.number.specs.declared.refusal.Refusal.{Refusal}
use native.Mathlib.Omega.{arith}
use mathlib.Core.Path.{◌≡◌, refl, sym, ap, ◌∙◌}
use mathlib.Core.List.{List, [], ◌++◌, append-nil}
use mathlib.Core.Bool.{Bool, true, false, not, ◌&&◌, cond}
use mathlib.Core.Option.{Option, none, some}
use lib.Dec.{eqb}
use mir.Val.{bool_byte}
use lib.Ieee.{Float}
use lib.ListN.{length, get_or, set, take, drop, replicate, length-set, length-replicate, length-drop, drop_of_length-le}
use lib.Seq.{length-take-le}
use borrow.Author.Tests.{lt-ltb, le-ltb, eq-eqb, ne_eqb}
use Rattle.number.specs.Ans.{Ans, held, refused, ◌>>=◌, demand}
use Rattle.number.specs.Arith.{zero64}
use Rattle.sizes.specs.Sizes.{side, sheet}
use Rattle.limits.specs.Limits.{index_within}
use Rattle.mie_parameters.proofs.Laws.{Inside, inside}
use Rattle.saftvrqmie_parameters.specs.declared.OrderRecord.{OrderRecord}
use Rattle.number.specs.Arith.{floats}
use Rattle.number.specs.Functions.{calls}
use Rattle.elementary.specs.Port.{port}
use Rattle.saftvrqmie_potential.specs.Potential.{FloatPair, pair_in, pair_at_entry}
use Rattle.saftvrqmie_properties.specs.Properties.{PairPropertiesIn, pair_properties_in, pair_properties_answer, pair_properties}
use Rattle.saftvrqmie_properties.specs.declared.PairProperties.{PairProperties}
use Rattle.saftvrqmie.proofs.Laws.{work_held, work_outside}
use Rattle.saftvrqmie.specs.Table.{Lent, blank, store, work_turn, table_finite}
use Rattle.saftvrqmie_energies.specs.Energies.{EnergiesIn, energies}
use Rattle.set_lists.specs.Sets.{taken, orders_read, quantum_read}
use Rattle.desk_place.specs.Layout.{part, over, Lists, m_at, fractions_at, densities_at, sheets_at, table_at, place_floats, orders_at, place_bytes, count_in, row_in, column_in, wanted_in, temperature_of, table_of, set_of, waits_in}
use Rattle.desk_place.specs.Place.{floats_entered, bytes_entered, freed, last_pair, moved, answer_of, settled, paired, unit, place_left, step_told}
use Rattle.desk_place.proofs.Parts.{back, back_laid, back_over, over_length, part_length}

-- ---- the pair in hand

pub waits_inside : (b : List ℕ) → waits_in b ≡ true → Inside (count_in b) (row_in b) (column_in b)
unfolding waits_in
waits_inside b h = inside (count_in b) (row_in b) (column_in b) h

pub waits_is : (b : List ℕ) (n i j : ℕ) (r : Bool) → n ≡ count_in b → i ≡ row_in b → j ≡ column_in b → r ≡ index_within n i j → r ≡ waits_in b
unfolding waits_in
waits_is b n i j r p q s e = e ∙ rw (p, q, s)

-- an index of a pair is below 12, a row as a column: what is asked of an entry hangs on no order of the two
pub row_below : (n i j : ℕ) → index_within n i j ≡ true → i < 12
row_below n i j w = let h = inside n i j w in let a = h.high in let b = h.row in omega (arith, a, b)

pub column_below : (n i j : ℕ) → index_within n i j ≡ true → j < 12
column_below n i j w = let h = inside n i j w in let a = h.high in let d = h.column in omega (arith, a, d)

and_false : (a : Bool) → (a && false) ≡ false
and_false true = refl
and_false false = refl

-- a column is left, a row is left, or neither
pub column_left : (b : List ℕ) (n j : ℕ) → n ≡ count_in b → j ≡ column_in b → j + 1 < n → last_pair b ≡ false
unfolding last_pair
column_left b n j p s h = rw (← p, ← s, ne_eqb (j + 1) n (λ e. omega (arith, e, h))) (and_false (eqb (row_in b + 1) n))

pub row_left : (b : List ℕ) (n i : ℕ) → n ≡ count_in b → i ≡ row_in b → i + 1 < n → last_pair b ≡ false
unfolding last_pair
row_left b n i p q h = rw (← p, ← q, ne_eqb (i + 1) n (λ e. omega (arith, e, h)))

pub none_left : (b : List ℕ) (n i j : ℕ) → n ≡ count_in b → i ≡ row_in b → j ≡ column_in b → i + 1 ≡ n → j + 1 ≡ n → last_pair b ≡ true
unfolding last_pair
none_left b n i j p q s a c = rw (← p, ← q, ← s, eq-eqb (i + 1) n a, eq-eqb (j + 1) n c)

pub moved_on : (b : List ℕ) (n j : ℕ) → n ≡ count_in b → j ≡ column_in b → j + 1 < n → set b 2 (j + 1) ≡ moved b
unfolding moved
moved_on b n j p s h = rw (← p, ← s, lt-ltb (j + 1) n h)

pub moved_down : (b : List ℕ) (n i j : ℕ) → n ≡ count_in b → i ≡ row_in b → j ≡ column_in b → n ≤ j + 1 → set (set b 1 (i + 1)) 2 0 ≡ moved b
unfolding moved
moved_down b n i j p q s h = rw (← p, ← q, ← s, le-ltb (j + 1) n h)

-- ---- the answer

module _ (p : Lists) where
  pub answer_7 : table_finite (table_of p) ≡ false → refused 7 ≡ answer_of p
  unfolding answer_of demand ◌>>=◌
  answer_7 h = rw h

  pub answer_is : (a : Ans (EnergiesIn Float)) (n : ℕ) (m sheets x rho : List Float) (o : List OrderRecord) (w : Bool) → table_finite (table_of p) ≡ true
      → n ≡ count_in p.bytes → m ≡ taken side (part m_at side p.floats) 0 → sheets ≡ taken (6 * sheet) (part sheets_at (6 * sheet) p.floats) 0
      → o ≡ orders_read (part orders_at sheet p.bytes) → w ≡ wanted_in p.bytes → x ≡ part fractions_at n p.floats → rho ≡ part densities_at n p.floats
      → a ≡ energies (record { count = n; m = m; sheets = sheets; orders = o }) (temperature_of p) x rho (table_of p) w → a ≡ answer_of p
  unfolding answer_of quantum_read demand ◌>>=◌
  answer_is a n m sheets x rho o w h p1 p2 p3 p4 p5 p6 p7 e = e ∙ rw (h, p6, p7, p1, p2, p3, p4, p5)

  -- ---- what follows a pair
  pub settled_on : (b : List ℕ) → last_pair p.bytes ≡ false → b ≡ moved p.bytes → (none ≡ step_told (settled p)) × (record { floats = p.floats; bytes = b } ≡ place_left (settled p))
  unfolding settled step_told place_left
  settled_on b h e = rw h (refl, ap (λ (z : List ℕ). record { floats = p.floats; bytes = z }) e)

  pub settled_done : (a : Ans (EnergiesIn Float)) → last_pair p.bytes ≡ true → a ≡ answer_of p → (some a ≡ step_told (settled p)) × (record { floats = p.floats; bytes = freed p.bytes } ≡ place_left (settled p))
  unfolding settled step_told place_left
  settled_done a h e = rw h (ap some e, refl)

  abbrev pub turn : Ans Lent
  turn = work_turn (set_of p).sheets (set_of p).orders (temperature_of p) (row_in p.bytes) (column_in p.bytes) (record { values = table_of p; numbers = [] })

  pub unit_6 : (n : ℕ) → turn ≡ refused n → (some (refused n) ≡ step_told (unit p)) × (record { floats = p.floats; bytes = freed p.bytes } ≡ place_left (unit p))
  unfolding unit paired step_told place_left
  unit_6 n h = rw h (refl, refl)

  -- the table's part with a pair stored
  pub tabled : (e : ℕ) (w : PairPropertiesIn Float) (y : List Float) → length p.floats ≡ place_floats → y ≡ (store (record { values = table_of p; numbers = [] }) e w).values → back table_at (4 * sheet) p.floats y ≡ over table_at y p.floats
  unfolding store
  tabled e w y h q =
      let l : length (table_of p) ≡ 4 * sheet = part_length table_at (4 * sheet) p.floats (omega (arith, h)) in
      back_over table_at (4 * sheet) p.floats y (ap length q ∙ simp length-set l)

  pub unit_on : (w : Lent) (l : List Float) (s : Option (Ans (EnergiesIn Float))) (r : Lists) → turn ≡ held w → l ≡ over table_at w.values p.floats
      → s ≡ step_told (settled (record { floats = l; bytes = p.bytes })) → r ≡ place_left (settled (record { floats = l; bytes = p.bytes }))
      → (s ≡ step_told (unit p)) × (r ≡ place_left (unit p))
  unfolding unit paired
  unit_on w l s r h e a b = rw (h, ← e) (a, b)

-- ---- a query that comes in

-- a part of +0 alone is a blank table laid over it
blank_laid : (p y : List Float) → length p ≡ 4 * sheet → y ≡ replicate (length p) zero64 → y ≡ blank.values ++ drop (length blank.values) p
blank_laid p y h e =
    let k : length blank.values ≡ 4 * sheet = length-replicate (4 * sheet) zero64 in
    let n : length p ≤ length blank.values = omega (arith, h, k) in
    e ∙ ap (λ (m : ℕ). replicate m zero64) h ∙ sym (append-nil blank.values) ∙ ap (λ (l : List Float). blank.values ++ l) (sym (drop_of_length-le p n))

-- five parts, the last all +0, each laid over
pub five : (l m x rho sheets y1 y2 y3 y4 y5 : List Float) → length l ≡ place_floats → length m ≡ side → length x ≤ side → length rho ≤ side → length sheets ≡ 6 * sheet
    → (let l1 = back m_at side l y1 in
    let l2 = back fractions_at side l1 y2 in
    let l3 = back densities_at side l2 y3 in
    let l4 = back sheets_at (6 * sheet) l3 y4 in
    y1 ≡ m ++ drop (length m) (part m_at side l)
    → y2 ≡ x ++ drop (length x) (part fractions_at side l1)
    → y3 ≡ rho ++ drop (length rho) (part densities_at side l2)
    → y4 ≡ sheets ++ drop (length sheets) (part sheets_at (6 * sheet) l3)
    → y5 ≡ replicate (length (part table_at (4 * sheet) l4)) zero64
    → back table_at (4 * sheet) l4 y5 ≡ over table_at blank.values (over sheets_at sheets (over densities_at rho (over fractions_at x (over m_at m l)))))
five l m x rho sheets y1 y2 y3 y4 y5 h a b c d e1 e2 e3 e4 e5 =
    let k : length blank.values ≡ 4 * sheet = length-replicate (4 * sheet) zero64 in
    let l1 = back m_at side l y1 in
    let l2 = back fractions_at side l1 y2 in
    let l3 = back densities_at side l2 y3 in
    let l4 = back sheets_at (6 * sheet) l3 y4 in
    let o1 = back_laid m_at side l m y1 (omega (arith, h)) (omega (arith, a)) e1 in
    let g1 : length l1 ≡ place_floats = ap length o1 ∙ over_length m_at m l (omega (arith, h, a)) ∙ h in
    let o2 = back_laid fractions_at side l1 x y2 (omega (arith, g1)) b e2 in
    let g2 : length l2 ≡ place_floats = ap length o2 ∙ over_length fractions_at x l1 (omega (arith, g1, b)) ∙ g1 in
    let o3 = back_laid densities_at side l2 rho y3 (omega (arith, g2)) c e3 in
    let g3 : length l3 ≡ place_floats = ap length o3 ∙ over_length densities_at rho l2 (omega (arith, g2, c)) ∙ g2 in
    let o4 = back_laid sheets_at (6 * sheet) l3 sheets y4 (omega (arith, g3)) (omega (arith, d)) e4 in
    let g4 : length l4 ≡ place_floats = ap length o4 ∙ over_length sheets_at sheets l3 (omega (arith, g3, d)) ∙ g3 in
    let p5 : length (part table_at (4 * sheet) l4) ≡ 4 * sheet = length-take-le (4 * sheet) (drop table_at l4) (omega (arith, length-drop table_at l4, g4)) in
    let o5 = back_laid table_at (4 * sheet) l4 blank.values y5 (omega (arith, g4)) (omega (arith, k)) (blank_laid (part table_at (4 * sheet) l4) y5 p5 e5) in
    o5 ∙ ap (over table_at blank.values) (o4 ∙ ap (over sheets_at sheets) (o3 ∙ ap (over densities_at rho) (o2 ∙ ap (over fractions_at x) o1)))

pub floats_are : (l l' m x rho sheets : List Float) (t : Float) → l' ≡ over table_at blank.values (over sheets_at sheets (over densities_at rho (over fractions_at x (over m_at m (set l 0 t))))) → l' ≡ floats_entered m sheets t x rho l
unfolding floats_entered
floats_are l l' m x rho sheets t e = e

-- the library's byte of a Bool
pub byte_is : (w : Bool) → bool_byte w ≡ cond w 1 0
byte_is true = refl
byte_is false = refl

pub four_length : (b : List ℕ) (n f : ℕ) → length (set (set (set (set b 0 n) 1 0) 2 0) 3 f) ≡ length b
four_length b n f = simp length-set

pub bytes_are : (b o y : List ℕ) (n f : ℕ) (w : Bool) → length b ≡ place_bytes → length o ≡ sheet → f ≡ cond w 1 0
    → (let s = set (set (set (set b 0 n) 1 0) 2 0) 3 f in y ≡ o ++ drop (length o) (part orders_at sheet s) → back orders_at sheet s y ≡ bytes_entered n o w b)
unfolding bytes_entered
bytes_are b o y n f w h k e q =
    let s = set (set (set (set b 0 n) 1 0) 2 0) 3 f in
    let l : length s ≡ place_bytes = four_length b n f ∙ h in
    back_laid orders_at sheet s o y (omega (arith, l)) (omega (arith, k)) q ∙ rw e

pub wanted_is : (b : List ℕ) (f : ℕ) → f ≡ get_or b 3 0 → not (eqb f 0) ≡ wanted_in b
wanted_is b f e = rw e

-- a part whose end was reckoned from its start
pub part_to : {A : Type 0} (a n : ℕ) (l : List A) → take (a + n - a) (drop a l) ≡ part a n l
part_to a n l = let e : a + n - a ≡ n = omega arith in rw e

-- ---- the pair in hand, worked
module _ (p : Lists) where
  pub worked_6 : (i j : ℕ) (x : FloatPair) (r : Result (PairProperties Float) Refusal) → i ≡ row_in p.bytes → j ≡ column_in p.bytes
      → x ≡ pair_at_entry (set_of p).sheets (set_of p).orders (temperature_of p) (12 * i + j) → pair_properties_answer r ≡ pair_properties floats (calls floats port) (pair_in x)
      → {n : Refusal} → r ≡ Err n → turn p ≡ refused (code n)
  worked_6 i j x r e f d q h = rw (← e, ← f) (work_outside (set_of p).sheets (set_of p).orders (temperature_of p) i j (record { values = table_of p; numbers = [] }) x r d q _ h)

  pub worked_held : (i j : ℕ) (x : FloatPair) (r : Result (PairProperties Float) Refusal) (w : PairProperties Float) → i ≡ row_in p.bytes → j ≡ column_in p.bytes
      → x ≡ pair_at_entry (set_of p).sheets (set_of p).orders (temperature_of p) (12 * i + j) → pair_properties_answer r ≡ pair_properties floats (calls floats port) (pair_in x)
      → r ≡ Ok w → turn p ≡ held (store (record { values = table_of p; numbers = [] }) (12 * i + j) (pair_properties_in w))
  worked_held i j x r w e f d q h = rw (← e, ← f) (work_held (set_of p).sheets (set_of p).orders (temperature_of p) i j (record { values = table_of p; numbers = [] }) x r d q _ w h refl)

  pub tabled_at : (e : ℕ) (w : PairPropertiesIn Float) (y : List Float) → length p.floats ≡ place_floats → y ≡ (store (record { values = table_of p; numbers = [] }) e w).values
      → back table_at (4 * sheet) p.floats y ≡ over table_at (store (record { values = table_of p; numbers = [] }) e w).values p.floats
  tabled_at e w y h q = tabled p e w y h q ∙ ap (λ (z : List Float). over table_at z p.floats) q
