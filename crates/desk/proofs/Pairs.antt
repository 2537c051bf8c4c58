-- The table worked pair by pair, row by row, is the table's own walk. Assumes nothing.
use Prim.Native.Nat.{ℕ, ◌+◌, ◌<◌}
use mathlib.Core.Path.{◌≡◌, refl, sym, subst}
use mathlib.Core.List.{List}
use lib.Ieee.{Float}
use lib.ListN.{length, length-set}
use Rattle.number.specs.Ans.{Ans, held, refused, ◌>>=◌}
use Rattle.number.specs.Arith.{floats}
use Rattle.number.specs.Functions.{calls}
use Rattle.number.specs.Walk.{walk}
use Rattle.number.proofs.Walk.{walk_none, walk_next, walk_stop}
use Rattle.sizes.specs.Sizes.{cell}
use Rattle.elementary.specs.Port.{port}
use Rattle.saftvrqmie_parameters.specs.declared.OrderRecord.{OrderRecord}
use Rattle.saftvrqmie_potential.specs.Potential.{pair_in, pair_at_entry}
use Rattle.saftvrqmie_properties.specs.Properties.{PairPropertiesIn, pair_properties}
use Rattle.saftvrqmie.specs.Table.{Lent, store, work_turn, work_row, work_pairs, blank}

-- what one turn gives from two tables of the same values, whatever their counts
pub data Alike (a b : Ans Lent) (v : List Float) : Type 0 where
  both : (x y : Lent) → a ≡ held x → b ≡ held y → x.values ≡ y.values → length x.values ≡ length v → Alike a b v
  neither : (n : ℕ) → a ≡ refused n → b ≡ refused n → Alike a b v

module _ (n : ℕ) (s : List Float) (o : List OrderRecord) (t : Float) where
  store_values : (x y : Lent) (e : ℕ) (w : PairPropertiesIn Float) → x.values ≡ y.values → (store x e w).values ≡ (store y e w).values
  unfolding store
  store_values x y e w h = rw h

  store_length : (x : Lent) (e : ℕ) (w : PairPropertiesIn Float) → length (store x e w).values ≡ length x.values
  unfolding store
  store_length x e w = simp length-set

  pub turn_alike : (i j : ℕ) (x y : Lent) → x.values ≡ y.values → Alike (work_turn s o t i j x) (work_turn s o t i j y) x.values
  unfolding work_turn ◌>>=◌
  turn_alike i j x y h = by (pair_properties floats (calls floats port) (pair_in (pair_at_entry s o t (cell i j)))) refl
    where
      by : (a : Ans (PairPropertiesIn Float)) → pair_properties floats (calls floats port) (pair_in (pair_at_entry s o t (cell i j))) ≡ a
          → Alike (a >>= λ w. held (store x (cell i j) w)) (a >>= λ w. held (store y (cell i j) w)) x.values
      by (held w) e = both (store x (cell i j) w) (store y (cell i j) w) refl refl (store_values x y (cell i j) w h) (store_length x (cell i j) w)
      by (refused k) e = neither k refl refl

  -- rows before i whole, and the first j pairs of row i
  pub record SoFar (i j : ℕ) (w : Lent) : Type 0 where
    pub row : Lent
    pub rows : held row ≡ walk i (work_row n s o t) blank
    pub pairs : held w ≡ walk j (work_turn s o t i) row

  pub far_none : SoFar 0 0 blank
  far_none = record { row = blank; rows = walk_none (work_row n s o t) blank; pairs = walk_none (work_turn s o t 0) blank }

  pub far_next : (i j : ℕ) (w x : Lent) → SoFar i j w → work_turn s o t i j w ≡ held x → SoFar i (j + 1) x
  far_next i j w x f h = record { row = f.row; rows = f.rows; pairs = walk_next (work_turn s o t i) f.row j w x f.pairs h }

  row_is : (i j : ℕ) (w : Lent) (f : SoFar i j w) → j ≡ n → work_row n s o t i f.row ≡ held w
  unfolding work_row
  row_is i j w f e = subst (λ (m : ℕ). walk m (work_turn s o t i) f.row ≡ held w) e (sym f.pairs)

  pub far_down : (i j : ℕ) (w : Lent) → SoFar i j w → j ≡ n → SoFar (i + 1) 0 w
  far_down i j w f e =
      record { row = w; rows = walk_next (work_row n s o t) blank i f.row w f.rows (row_is i j w f e); pairs = walk_none (work_turn s o t (i + 1)) w }

  pub far_all : (i j : ℕ) (w : Lent) → SoFar i j w → i + 1 ≡ n → j ≡ n → work_pairs n s o t blank ≡ held w
  unfolding work_pairs
  far_all i j w f d e =
      let g = walk_next (work_row n s o t) blank i f.row w f.rows (row_is i j w f e) in
      sym (subst (λ (m : ℕ). held w ≡ walk m (work_row n s o t) blank) d g)

  row_stops : (i j m : ℕ) (w : Lent) (f : SoFar i j w) → j < n → work_turn s o t i j w ≡ refused m → work_row n s o t i f.row ≡ refused m
  unfolding work_row
  row_stops i j m w f b h = sym (walk_stop (work_turn s o t i) f.row n j m w b f.pairs h)

  -- a turn that refuses is the whole walk's answer
  pub far_stop : (i j m : ℕ) (w : Lent) → SoFar i j w → i < n → j < n → work_turn s o t i j w ≡ refused m → work_pairs n s o t blank ≡ refused m
  unfolding work_pairs
  far_stop i j m w f a b h = sym (walk_stop (work_row n s o t) blank n i m f.row a f.rows (row_stops i j m w f b h))
