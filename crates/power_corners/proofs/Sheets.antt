-- A walk over all pairs that stores six numbers at each pair's entry leaves every entry with its own pair's. Assumes nothing.
use Prim.Native.Nat.{ℕ, zero, suc, ◌+◌, ◌*◌, ◌≤◌, ◌<◌}
use native.Mathlib.Nat.{zero-add, not-suc-le-zero, le_of_suc-le-suc, eq-or-lt_of_le}
use native.Mathlib.Omega.{arith}
use mathlib.Core.Path.{◌≡◌, refl, ap, ◌∙◌, subst}
use mathlib.Core.Logic.{◌⊎◌, inl, inr}
use mathlib.Core.List.{List}
use lib.ListN.{length, length-set, set}
use lib.Seq.{get_or-set_same, get_or-set_other}
use lib.Ieee.{Float, nan}
use Rattle.number.specs.Ans.{Ans, held, ◌>>=◌}
use Rattle.number.specs.Lists.{at}
use Rattle.number.specs.Walk.{walk}
use Rattle.number.proofs.Walk.{held_inj, then_held}
use Rattle.sizes.specs.Sizes.{side, sheet, cell}

apart : (k m e : ℕ) → k < m → k * sheet + e ≡ m * sheet + e → ⊥
apart k m e h g = omega arith

module _ {P : Type 0} (value : ℕ → ℕ → Ans P) (entry : P → ℕ → Float) where
  -- the list after one store, .., after all six
  abbrev s1 : List Float → ℕ → P → List Float
  s1 s e p = set s e (entry p 0)

  abbrev s2 : List Float → ℕ → P → List Float
  s2 s e p = set (s1 s e p) (1 * sheet + e) (entry p 1)

  abbrev s3 : List Float → ℕ → P → List Float
  s3 s e p = set (s2 s e p) (2 * sheet + e) (entry p 2)

  abbrev s4 : List Float → ℕ → P → List Float
  s4 s e p = set (s3 s e p) (3 * sheet + e) (entry p 3)

  abbrev s5 : List Float → ℕ → P → List Float
  s5 s e p = set (s4 s e p) (4 * sheet + e) (entry p 4)

  abbrev store : List Float → ℕ → P → List Float
  store s e p = set (s5 s e p) (5 * sheet + e) (entry p 5)

  abbrev turn : ℕ → ℕ → List Float → Ans (List Float)
  turn i j s = value i j >>= λ p. held (store s (cell i j) p)

  -- ---- one store
  store_long : (s : List Float) (e : ℕ) (p : P) → length s ≡ 6 * sheet → length (store s e p) ≡ 6 * sheet
  store_long s e p h = simp length-set h

  store_else : (s : List Float) (e q : ℕ) (p : P) → ((k : ℕ) → k < 6 → q ≡ k * sheet + e → ⊥) → at (store s e p) q ≡ at s q
  store_else s e q p h =
      get_or-set_other (s5 s e p) (5 * sheet + e) q (entry p 5) nan (h 5 (omega arith))
      ∙ get_or-set_other (s4 s e p) (4 * sheet + e) q (entry p 4) nan (h 4 (omega arith))
      ∙ get_or-set_other (s3 s e p) (3 * sheet + e) q (entry p 3) nan (h 3 (omega arith))
      ∙ get_or-set_other (s2 s e p) (2 * sheet + e) q (entry p 2) nan (h 2 (omega arith))
      ∙ get_or-set_other (s1 s e p) (1 * sheet + e) q (entry p 1) nan (h 1 (omega arith))
      ∙ get_or-set_other s e q (entry p 0) nan (λ (g : q ≡ e). h 0 (omega arith) (omega arith))

  store_at : (s : List Float) (e : ℕ) (p : P) → length s ≡ 6 * sheet → e < sheet → (k : ℕ) → k < 6 → at (store s e p) (k * sheet + e) ≡ entry p k
  store_at s e p h l zero n =
      ap (at (store s e p)) (zero-add e)
      ∙ get_or-set_other (s5 s e p) (5 * sheet + e) e (entry p 5) nan (λ (g : e ≡ 5 * sheet + e). omega arith)
      ∙ get_or-set_other (s4 s e p) (4 * sheet + e) e (entry p 4) nan (λ (g : e ≡ 4 * sheet + e). omega arith)
      ∙ get_or-set_other (s3 s e p) (3 * sheet + e) e (entry p 3) nan (λ (g : e ≡ 3 * sheet + e). omega arith)
      ∙ get_or-set_other (s2 s e p) (2 * sheet + e) e (entry p 2) nan (λ (g : e ≡ 2 * sheet + e). omega arith)
      ∙ get_or-set_other (s1 s e p) (1 * sheet + e) e (entry p 1) nan (λ (g : e ≡ 1 * sheet + e). omega arith)
      ∙ get_or-set_same s e (entry p 0) nan (omega arith)
  store_at s e p h l (suc zero) n =
      get_or-set_other (s5 s e p) (5 * sheet + e) (1 * sheet + e) (entry p 5) nan (apart 1 5 e (omega arith))
      ∙ get_or-set_other (s4 s e p) (4 * sheet + e) (1 * sheet + e) (entry p 4) nan (apart 1 4 e (omega arith))
      ∙ get_or-set_other (s3 s e p) (3 * sheet + e) (1 * sheet + e) (entry p 3) nan (apart 1 3 e (omega arith))
      ∙ get_or-set_other (s2 s e p) (2 * sheet + e) (1 * sheet + e) (entry p 2) nan (apart 1 2 e (omega arith))
      ∙ get_or-set_same (s1 s e p) (1 * sheet + e) (entry p 1) nan (simp length-set (omega arith))
  store_at s e p h l (suc (suc zero)) n =
      get_or-set_other (s5 s e p) (5 * sheet + e) (2 * sheet + e) (entry p 5) nan (apart 2 5 e (omega arith))
      ∙ get_or-set_other (s4 s e p) (4 * sheet + e) (2 * sheet + e) (entry p 4) nan (apart 2 4 e (omega arith))
      ∙ get_or-set_other (s3 s e p) (3 * sheet + e) (2 * sheet + e) (entry p 3) nan (apart 2 3 e (omega arith))
      ∙ get_or-set_same (s2 s e p) (2 * sheet + e) (entry p 2) nan (simp length-set (omega arith))
  store_at s e p h l (suc (suc (suc zero))) n =
      get_or-set_other (s5 s e p) (5 * sheet + e) (3 * sheet + e) (entry p 5) nan (apart 3 5 e (omega arith))
      ∙ get_or-set_other (s4 s e p) (4 * sheet + e) (3 * sheet + e) (entry p 4) nan (apart 3 4 e (omega arith))
      ∙ get_or-set_same (s3 s e p) (3 * sheet + e) (entry p 3) nan (simp length-set (omega arith))
  store_at s e p h l (suc (suc (suc (suc zero)))) n =
      get_or-set_other (s5 s e p) (5 * sheet + e) (4 * sheet + e) (entry p 5) nan (apart 4 5 e (omega arith))
      ∙ get_or-set_same (s4 s e p) (4 * sheet + e) (entry p 4) nan (simp length-set (omega arith))
  store_at s e p h l (suc (suc (suc (suc (suc zero))))) n =
      get_or-set_same (s5 s e p) (5 * sheet + e) (entry p 5) nan (simp length-set (omega arith))
  store_at s e p h l (suc (suc (suc (suc (suc (suc k)))))) n = absurd (none k n)
    where
      none : (k : ℕ) → suc (suc (suc (suc (suc (suc k))))) < 6 → ⊥
      none k h = omega arith

  -- ---- the pair (i, j) stands in its entry
  pub record Stands (y : List Float) (i j : ℕ) : Type 0 where
    pub pair : P
    pub is : value i j ≡ held pair
    pub entries : (k : ℕ) → k < 6 → at y (k * sheet + cell i j) ≡ entry pair k

  -- what does not touch the entry
  keeps : (x y : List Float) (i j : ℕ) → ((k : ℕ) → k < 6 → at y (k * sheet + cell i j) ≡ at x (k * sheet + cell i j)) → Stands x i j → Stands y i j
  keeps x y i j h w = record { pair = w.pair; is = w.is; entries = λ k l. h k l ∙ w.entries k l }

  -- two places on six sheets
  places : (k i j k' i' j' : ℕ) → i < side → j < side → i' < side → j' < side → ((i ≡ i') × (j ≡ j') → ⊥) → k * sheet + cell i j ≡ k' * sheet + cell i' j' → ⊥
  places k i j k' i' j' a b c d h g = h (omega arith, omega arith)

  record Row (i m : ℕ) (s y : List Float) : Type 0 where
    long : length y ≡ 6 * sheet
    done : (j : ℕ) → j < m → Stands y i j
    other : (i' j' : ℕ) → i' < side → j' < side → (i' ≡ i → ⊥) → (k : ℕ) → k < 6 → at y (k * sheet + cell i' j') ≡ at s (k * sheet + cell i' j')

  row_next : (i m : ℕ) (s x : List Float) (p : P) → i < side → m < side → Row i m s x → value i m ≡ held p → Row i (suc m) s (store x (cell i m) p)
  row_next i m s x p a b r q =
      record {
        long = store_long x (cell i m) p r.long;
        done = λ j l. go j (eq-or-lt_of_le (le_of_suc-le-suc l));
        other = λ i' j' c d h k l. store_else x (cell i m) (k * sheet + cell i' j') p (λ k' l'. places k i' j' k' i m c d a b (λ e. h e.0)) ∙ r.other i' j' c d h k l;
      }
    where
      go : (j : ℕ) → (j ≡ m) ⊎ (j < m) → Stands (store x (cell i m) p) i j
      go j (inr l) = keeps x (store x (cell i m) p) i j (λ k n. store_else x (cell i m) (k * sheet + cell i j) p (λ k' n'. places k i j k' i m a (omega arith) a b (λ e. omega (arith, e.1)))) (r.done j l)
      go j (inl e) = rw e (record { pair = p; is = q; entries = store_at x (cell i m) p r.long (omega arith) })

  row : (m i : ℕ) (s y : List Float) → m ≤ side → i < side → length s ≡ 6 * sheet → walk m (turn i) s ≡ held y → Row i m s y
  unfolding walk
  row zero i s y a b h e = subst (Row i zero s) (held_inj s y e) (record { long = h; done = λ j l. absurd (not-suc-le-zero l); other = λ i' j' c d g k l. refl })
  row (suc m) i s y a b h e =
      let t = then_held (walk m (turn i) s) (turn i m) y e in
      let v = then_held (value i m) (λ p. held (store t.0 (cell i m) p)) y t.2 in
      subst (Row i (suc m) s) (held_inj _ y v.2) (row_next i m s t.0 v.0 b (omega arith) (row m i s t.0 (omega arith) b h t.1) v.1)

  pub record Rows (r n : ℕ) (y : List Float) : Type 0 where
    pub long : length y ≡ 6 * sheet
    pub done : (i j : ℕ) → i < r → j < n → Stands y i j

  pub rows : (r n : ℕ) (s y : List Float) → r ≤ side → n ≤ side → length s ≡ 6 * sheet → walk r (λ i x. walk n (turn i) x) s ≡ held y → Rows r n y
  unfolding walk
  rows zero n s y a b h e = subst (Rows zero n) (held_inj s y e) (record { long = h; done = λ i j l. absurd (not-suc-le-zero l) })
  rows (suc r) n s y a b h e =
      let t = then_held (walk r (λ i x. walk n (turn i) x) s) (λ x. walk n (turn r) x) y e in
      let before = rows r n s t.0 (omega arith) b h t.1 in
      let now' = row n r t.0 y b (omega arith) before.long t.2 in
      record { long = now'.long; done = λ i j l m. go before now' i j m (eq-or-lt_of_le (le_of_suc-le-suc l)) }
    where
      go : {x : List Float} → Rows r n x → Row r n x y → (i j : ℕ) → j < n → (i ≡ r) ⊎ (i < r) → Stands y i j
      go before w i j m (inr l) = keeps _ y i j (w.other i j (omega arith) (omega arith) (λ (g : i ≡ r). omega arith)) (before.done i j l m)
      go before w i j m (inl g) = rw g (w.done j m)
