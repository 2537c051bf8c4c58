-- The table with slopes has the values of the table without them. Assumes nothing.
use Prim.Native.Nat.{ℕ, ◌*◌}
use native.Mathlib.Omega.{arith}
use lib.Ieee.{Float}
use lib.ListN.{length}
use mathlib.Core.Path.{◌≡◌, refl, sym, subst, ap, ◌∙◌}
use mathlib.Core.List.{List}
use mathlib.Core.Bool.{Bool, true, false}
use Rattle.std.proofs.lemmas.Bool.{and_parts}
use Rattle.number.specs.Ans.{Ans, held, refused, ◌>>=◌, demand}
use Rattle.number.proofs.Walk.{demanded, then_held, held_inj}
use Rattle.sizes.specs.Sizes.{sheet, cell}
use Rattle.elementary.specs.Port.{port}
use Rattle.dual.specs.Dual.{DualOf}
use Rattle.limits.specs.Limits.{temperature_within}
use Rattle.slopes_lists.specs.Lists.{SlopedList}
use Rattle.saftvrqmie_parameters.specs.declared.OrderRecord.{OrderRecord}
use Rattle.saftvrqmie_parameters.specs.declared.SaftVRQMiePars.{SaftVRQMiePars}
use Rattle.saftvrqmie_potential.specs.Potential.{pair_at_entry}
use Rattle.saftvrqmie_properties.specs.Properties.{PairPropertiesIn}
use Rattle.saftvrqmie.specs.Table as Floats
use Rattle.saftvrqmie.specs.Table.{Lent, store, work_turn, work_row, work_pairs, table_finite, right_lists, temperature_table}
use Rattle.saftvrqmie.proofs.Laws.{pairs_whole, holds}
use Rattle.saftvrqmie_table_slopes.specs.Table.{store_slopes, slopes_turn, slopes_row, slopes_pairs, slopes_finite, table_slopes_into, table_slopes, blank}
use Rattle.slopes_values.specs.Values.{properties_values}
use Rattle.slopes_values.proofs.OneSided.{Kept, kept_held, kept_refused, then_kept, walk_kept, kept_gives}
use Rattle.slopes_values.proofs.Values.{values_kept}

-- where the first holds, the second holds f of it
kept_of : {S T : Type 0} (a : Ans S) (b : Ans T) (f : S → T) → ((x : S) → a ≡ held x → b ≡ held (f x)) → Kept (λ x y. y ≡ f x) a b
kept_of (held x) b f h = subst (λ (c : Ans _). Kept (λ x y. y ≡ f x) (held x) c) (sym (h x refl)) (kept_held refl)
kept_of (refused n) b f h = kept_refused

-- ---- the same values so far
abbrev Same : SlopedList → Lent → Type 0
Same x y = x.values ≡ y.values

store_kept : (x : SlopedList) (y : Lent) (e : ℕ) (v : PairPropertiesIn (DualOf Float)) (w : PairPropertiesIn Float) → Same x y → w ≡ properties_values v → Same (store_slopes x e v) (store y e w)
unfolding store_slopes store
store_kept x y e v w p q = rw (p, q)

module _ (s : List Float) (o : List OrderRecord) (t : DualOf Float) where
  turn_kept : (i j : ℕ) (x : SlopedList) (y : Lent) → Same x y → Kept Same (slopes_turn port s o t i j x) (work_turn s o t.re i j y)
  unfolding slopes_turn work_turn
  turn_kept i j x y p =
      then_kept (kept_of _ _ properties_values (λ v e. values_kept.properties_kept port (pair_at_entry s o t.re (cell i j)) t v e)) (λ v w q. kept_held (store_kept x y (cell i j) v w p q))

  row_kept : (n i : ℕ) (x : SlopedList) (y : Lent) → Same x y → Kept Same (slopes_row port s o t n i x) (work_row n s o t.re i y)
  unfolding slopes_row work_row
  row_kept n i x y p = walk_kept Same n _ _ (turn_kept i) p

  pairs_kept : (n : ℕ) (x : SlopedList) (y : Lent) → Same x y → Kept Same (slopes_pairs port s o t n x) (work_pairs n s o t.re y)
  unfolding slopes_pairs work_pairs
  pairs_kept n x y p = walk_kept Same n _ _ (row_kept n) p

-- what an accepted table says: its walk holds, and all of it is finite
accepted : (n : ℕ) (s : List Float) (o : List OrderRecord) (t : DualOf Float) (w : SlopedList) → table_slopes port n s o t ≡ held w → (slopes_pairs port s o t n blank ≡ held w) × (slopes_finite w ≡ true)
unfolding table_slopes_into
accepted n s o t w e =
    let h = then_held (slopes_pairs port s o t n blank) (λ x. demand 7 (slopes_finite x) >>= λ _. held x) w e in
    let g = then_held (demand 7 (slopes_finite h.0)) (λ _. held h.0) w h.2 in
    let i = held_inj h.0 w g.2 in
    (rw i at h.1, rw i at (demanded 7 (slopes_finite h.0) g.0 g.1))

finite_values : (w : SlopedList) → slopes_finite w ≡ true → table_finite w.values ≡ true
unfolding slopes_finite
finite_values w p = (and_parts (table_finite w.values) (table_finite w.slopes) p).0

with_values : (a : Ans Lent) (y : Lent) (v : List Float) → v ≡ y.values → a ≡ held y → a ≡ held (record { values = v; numbers = y.numbers })
with_values a y v p e = rw p e

finite_too : (y : Lent) (v : List Float) → v ≡ y.values → table_finite v ≡ true → table_finite y.values ≡ true
finite_too y v p e = rw (← p) e

pub table_kept : (s : SaftVRQMiePars) (t : DualOf Float) (w : SlopedList) (l : Lent) → right_lists s.count (length l.values) (length l.numbers) ≡ true → temperature_within t.re ≡ true
    → table_slopes port s.count s.sheets s.orders t ≡ held w → (c : List ℕ) × (temperature_table s t.re l ≡ held (record { values = w.values; numbers = c }))
table_kept s t w l right within e =
    let h = accepted s.count s.sheets s.orders t w e in
    let g = kept_gives _ _ w (pairs_kept s.sheets s.orders t s.count blank Floats.blank refl) h.0 in
    let f = finite_too g.0 w.values g.2 (finite_values w h.1) in
    (g.0.numbers, with_values (temperature_table s t.re l) g.0 w.values g.2 (holds s t.re l right within g.0 g.1 f))

-- and it is as long
pub table_long : (s : SaftVRQMiePars) (t : DualOf Float) (w : SlopedList) → table_slopes port s.count s.sheets s.orders t ≡ held w → length w.values ≡ 4 * sheet
table_long s t w e =
    let h = accepted s.count s.sheets s.orders t w e in
    let g = kept_gives _ _ w (pairs_kept s.sheets s.orders t s.count blank Floats.blank refl) h.0 in
    ap length g.2 ∙ (pairs_whole s.count s.sheets s.orders t.re g.0 g.1).0
