-- The table, test by test; copies into parts of a list. Assumes nothing.
use Prim.Native.Nat.{ℕ, ◌+◌, ◌*◌, ◌≤◌}
use Rattle.std.proofs.lemmas.Bool.{and_parts}
use Rattle.std.specs.Prelude.{Err, Ok, Result}
use Rattle.number.specs.declared.refusal.Refusal.{Refusal}
use native.Mathlib.Omega.{arith}
use mathlib.Core.Path.{◌≡◌, refl, sym, ap, ◌∙◌, subst}
use mathlib.Core.Bool.{true, false, ◌&&◌}
use mathlib.Core.List.{List, ◌++◌, append-nil, append_assoc}
use lib.Ieee.{Float}
use lib.Dec.{eqb}
use borrow.Author.Tests.{eqb-true}
use lib.ListN.{length, take, drop, length-set, drop_of_length-le}
use lib.Seq.{take_at, drop_at, take-add, drop-drop, length-take-le, take_all}
use Rattle.mie_parameters.specs.Answer.{verdict, stored}
use Rattle.number.specs.Answer.{code}
use Rattle.number.specs.Ans.{Ans, held, refused, ◌>>=◌, demand}
use Rattle.number.specs.Arith.{floats}
use Rattle.number.specs.Functions.{calls}
use Rattle.sizes.specs.Sizes.{side, sheet, cell}
use Rattle.number.proofs.Walk.{via, walk_keeps, then_held, held_inj}
use Rattle.elementary.specs.Port.{port}
use Rattle.limits.specs.Limits.{count_within, temperature_within}
use Rattle.mie_parameters.proofs.Laws.{count_high}
use Rattle.saftvrqmie_parameters.specs.declared.OrderRecord.{OrderRecord}
use Rattle.saftvrqmie_parameters.specs.declared.SaftVRQMiePars.{SaftVRQMiePars}
use Rattle.saftvrqmie_potential.specs.Potential.{FloatPair, pair_in, pair_at_entry}
use Rattle.saftvrqmie_properties.specs.Properties.{PairPropertiesIn, pair_properties_in, pair_properties_answer, pair_properties}
use Rattle.saftvrqmie_properties.specs.declared.PairProperties.{PairProperties}
use Rattle.saftvrqmie.specs.Table.{Lent, store, work_turn, work_row, work_pairs, blank, table_finite, right_lists, temperature_table}

-- the parts of a list, replaced one after the other by those of v: so far up to a
pub part_next : {A : Type 0} (v d l : List A) (a k : ℕ) → a + k ≤ length v → length v ≡ length d → l ≡ take a v ++ drop a d
    → take a l ++ (take k (drop a v) ++ drop k (drop a l)) ≡ take (a + k) v ++ drop (a + k) d
part_next v d l a k p q h =
    let e : length (take a v) ≡ a = length-take-le a v (omega arith) in
    rw (h, take_at (take a v) (drop a d) a e, drop_at (take a v) (drop a d) a e, drop-drop, take-add)
    (sym (append_assoc (take a v) (take k (drop a v)) (drop (a + k) d)))

-- a turn of the work, over plain values
module _ (s : List Float) (o : List OrderRecord) (t : Float) (i j : ℕ) (x : Lent) (p : FloatPair) (r : Result (PairProperties Float) Refusal) (d : p ≡ pair_at_entry s o t (cell i j)) (q : pair_properties_answer r ≡ pair_properties floats (calls floats port) (pair_in p)) where
  told_here : pair_properties_answer r ≡ pair_properties floats (calls floats port) (pair_in (pair_at_entry s o t (cell i j)))
  told_here = q ∙ ap (λ (p : FloatPair). pair_properties floats (calls floats port) (pair_in p)) d

  pub work_held : (y : Lent) (w : PairProperties Float) → r ≡ Ok w → y ≡ store x (cell i j) (pair_properties_in w) → work_turn s o t i j x ≡ held y
  unfolding work_turn ◌>>=◌
  work_held y w h g = rw (via pair_properties_answer told_here h, g)

  pub work_outside : (e : Refusal) → r ≡ Err e → work_turn s o t i j x ≡ refused (code e)
  unfolding work_turn ◌>>=◌
  work_outside e h = rw (via pair_properties_answer told_here h)

-- both lists keep their lengths on the way
abbrev pub Whole : Lent → Type 0
Whole s = (length s.values ≡ 4 * sheet) × (length s.numbers ≡ 3 * sheet)

store_whole : (s : Lent) (e : ℕ) (w : PairPropertiesIn Float) → Whole s → Whole (store s e w)
unfolding store
store_whole s e w p = (simp length-set p.0, simp length-set p.1)

turn_whole : (q : List Float) (o : List OrderRecord) (t : Float) (i j : ℕ) (x z : Lent) → Whole x → work_turn q o t i j x ≡ held z → Whole z
unfolding work_turn
turn_whole q o t i j x z p e =
    let h = then_held (pair_properties floats (calls floats port) (pair_in (pair_at_entry q o t (cell i j)))) (λ w. held (store x (cell i j) w)) z e in
    subst Whole (held_inj _ z h.2) (store_whole x (cell i j) h.0 p)

row_whole : (n : ℕ) (q : List Float) (o : List OrderRecord) (t : Float) (i : ℕ) (x z : Lent) → Whole x → work_row n q o t i x ≡ held z → Whole z
unfolding work_row
row_whole n q o t i x z p e = walk_keeps Whole n (work_turn q o t i) x z (turn_whole q o t i) p e

pub pairs_whole : (n : ℕ) (q : List Float) (o : List OrderRecord) (t : Float) (z : Lent) → work_pairs n q o t blank ≡ held z → Whole z
unfolding work_pairs
pairs_whole n q o t z e = walk_keeps Whole n (work_row n q o t) blank z (row_whole n q o t) (refl, refl) e

-- the operation, test by test: the answer and both lists follow from what it is
module _ (s : SaftVRQMiePars) (t : Float) (l : Lent) where
  pub refuses_1 : right_lists s.count (length l.values) (length l.numbers) ≡ false → temperature_table s t l ≡ refused 1
  unfolding temperature_table demand ◌>>=◌
  refuses_1 p = rw p

  module _ (right : right_lists s.count (length l.values) (length l.numbers) ≡ true) where
    pub refuses_2 : temperature_within t ≡ false → temperature_table s t l ≡ refused 2
    unfolding temperature_table demand ◌>>=◌
    refuses_2 p = rw (right, p)

    module _ (h : temperature_within t ≡ true) where
      pub refuses_6 : (k : ℕ) → work_pairs s.count s.sheets s.orders t blank ≡ refused k → temperature_table s t l ≡ refused k
      unfolding temperature_table demand ◌>>=◌
      refuses_6 k p = rw (right, h, p)

      pub refuses_7 : (w : Lent) → work_pairs s.count s.sheets s.orders t blank ≡ held w → table_finite w.values ≡ false → temperature_table s t l ≡ refused 7
      unfolding temperature_table demand ◌>>=◌
      refuses_7 w p q = rw (right, h, p, q)

      pub holds : (w : Lent) → work_pairs s.count s.sheets s.orders t blank ≡ held w → table_finite w.values ≡ true → temperature_table s t l ≡ held w
      unfolding temperature_table demand ◌>>=◌
      holds w p q = rw (right, h, p, q)

pub refused_done : (q : Ans Lent) (l : Lent) (m : ℕ) → q ≡ refused m
    → (refused m ≡ verdict q) × (l.values ≡ (stored l q).values) × (l.numbers ≡ (stored l q).numbers)
unfolding verdict stored
refused_done q l m p = rw p (refl, refl, refl)

pub held_done : (q : Ans Lent) (l w : Lent) (x : List Float) (y : List ℕ) → q ≡ held w → x ≡ w.values → y ≡ w.numbers
    → (held true ≡ verdict q) × (x ≡ (stored l q).values) × (y ≡ (stored l q).numbers)
unfolding verdict stored
held_done q l w x y p d e = rw p (refl, d, e)

-- four parts, each its own write
pub four : (v d l1 l2 l3 l4 : List Float) → length v ≡ 4 * sheet → length d ≡ 4 * sheet
    → l1 ≡ take 0 d ++ (take sheet (drop 0 v) ++ drop sheet (drop 0 d))
    → l2 ≡ take sheet l1 ++ (take sheet (drop sheet v) ++ drop sheet (drop sheet l1))
    → l3 ≡ take (2 * sheet) l2 ++ (take sheet (drop (2 * sheet) v) ++ drop sheet (drop (2 * sheet) l2))
    → l4 ≡ take (3 * sheet) l3 ++ (take sheet (drop (3 * sheet) v) ++ drop sheet (drop (3 * sheet) l3))
    → l4 ≡ v
four v d l1 l2 l3 l4 p q e1 e2 e3 e4 =
    let h1 = e1 ∙ part_next v d d 0 sheet (omega arith) (p ∙ sym q) refl in
    let h2 = e2 ∙ part_next v d l1 sheet sheet (omega arith) (p ∙ sym q) h1 in
    let h3 = e3 ∙ part_next v d l2 (2 * sheet) sheet (omega arith) (p ∙ sym q) h2 in
    let h4 = e4 ∙ part_next v d l3 (3 * sheet) sheet (omega arith) (p ∙ sym q) h3 in
    let a : length v ≤ 4 * sheet = omega arith in
    let b : length d ≤ 4 * sheet = omega arith in
    h4 ∙ rw (take_all (4 * sheet) v a, drop_of_length-le d b) (append-nil v)

pub three : (v d l1 l2 l3 : List ℕ) → length v ≡ 3 * sheet → length d ≡ 3 * sheet
    → l1 ≡ take 0 d ++ (take sheet (drop 0 v) ++ drop sheet (drop 0 d))
    → l2 ≡ take sheet l1 ++ (take sheet (drop sheet v) ++ drop sheet (drop sheet l1))
    → l3 ≡ take (2 * sheet) l2 ++ (take sheet (drop (2 * sheet) v) ++ drop sheet (drop (2 * sheet) l2))
    → l3 ≡ v
three v d l1 l2 l3 p q e1 e2 e3 =
    let h1 = e1 ∙ part_next v d d 0 sheet (omega arith) (p ∙ sym q) refl in
    let h2 = e2 ∙ part_next v d l1 sheet sheet (omega arith) (p ∙ sym q) h1 in
    let h3 = e3 ∙ part_next v d l2 (2 * sheet) sheet (omega arith) (p ∙ sym q) h2 in
    let a : length v ≤ 3 * sheet = omega arith in
    let b : length d ≤ 3 * sheet = omega arith in
    h3 ∙ rw (take_all (3 * sheet) v a, drop_of_length-le d b) (append-nil v)

-- what the first test says
pub record Right (n a b : ℕ) : Type 0 where
  pub high : n ≤ side
  pub first : a ≡ 4 * sheet
  pub second : b ≡ 3 * sheet

pub lengths : (n a b : ℕ) → right_lists n a b ≡ true → Right n a b
unfolding right_lists
lengths n a b p =
    let c = count_within n in
    let q = (and_parts (c && eqb a (4 * sheet)) (eqb b (3 * sheet)) p).0 in
    record {
      high = count_high n (and_parts c (eqb a (4 * sheet)) q).0;
      first = eqb-true a (4 * sheet) (and_parts c (eqb a (4 * sheet)) q).1;
      second = eqb-true b (3 * sheet) (and_parts (c && eqb a (4 * sheet)) (eqb b (3 * sheet)) p).1;
    }

-- the part of l from a on, replaced by that of v
abbrev pub over : {A : Type 0} → List A → ℕ → List A → List A
over v a l = take a l ++ (take sheet (drop a v) ++ drop sheet (drop a l))

pub all_four : (v d : List Float) → length v ≡ 4 * sheet → length d ≡ 4 * sheet → over v (3 * sheet) (over v (2 * sheet) (over v sheet (over v 0 d))) ≡ v
all_four v d p q = four v d _ _ _ _ p q refl refl refl refl

pub all_three : (v d : List ℕ) → length v ≡ 3 * sheet → length d ≡ 3 * sheet → over v (2 * sheet) (over v sheet (over v 0 d)) ≡ v
all_three v d p q = three v d _ _ _ p q refl refl refl
