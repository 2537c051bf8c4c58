-- The alphas at the pairs of a set do not hang on what the list held before: each is written before it is read. Assumes nothing.
use Prim.Native.Nat.{ℕ, zero, suc, ◌+◌, ◌-◌, ◌≤◌, ◌<◌}
use native.Mathlib.Omega.{arith}
use borrow.Author.Tests.{ltb-true, ltb-false}
use lib.Dec.{ltb}
use lib.ListN.{length, set, length-set}
use lib.Seq.{get_or-set_same}
use lib.Ieee.{nan}
use mathlib.Core.Path.{◌≡◌, refl, sym, ◌∙◌}
use mathlib.Core.Bool.{Bool, true, false}
use mathlib.Core.List.{List, [], ◌∷◌}
use Rattle.number.specs.Ans.{Ans, held, refused, ◌>>=◌}
use Rattle.number.specs.Arith.{Arith}
use Rattle.number.specs.Functions.{Functions}
use Rattle.number.specs.Lists.{nth}
use Rattle.number.specs.Walk.{walk}
use Rattle.number.proofs.Walk.{held_inj}
use Rattle.number.proofs.Rel.{Both, both_held, both_refused, then_both}
use Rattle.sizes.specs.Sizes.{side, sheet, cell}
use Rattle.saftvrqmie_dispersion.specs.Alpha.{alpha}
use Rattle.saftvrqmie_dispersion_sums.specs.State.{SheetsIn}
use Rattle.saftvrqmie_dispersion_sums.specs.Dispersion.{alpha_turn, alpha_row, alphas}

-- ---- two runs of one walk
walk_both : {S : Type 0} (R : ℕ → S → S → Type 0) (f : ℕ → S → Ans S) (n : ℕ) (s t : S) → ((j : ℕ) (x y : S) → j < n → R j x y → Both (R (suc j)) (f j x) (f j y)) → R 0 s t → Both (R n) (walk n f s) (walk n f t)
unfolding walk
walk_both R f zero s t h p = both_held p
walk_both R f (suc n) s t h p = then_both (walk_both R f n s t (λ j x y q r. h j x y (omega arith) r) p) (λ x y r. h n x y (omega arith) r)

same_both : {S T : Type 0} (R : T → T → Type 0) (a : Ans S) (f g : S → Ans T) → ((x : S) → Both R (f x) (g x)) → Both R (a >>= f) (a >>= g)
unfolding ◌>>=◌
same_both R (held x) f g h = h x
same_both R (refused n) f g h = both_refused

weaker : {S : Type 0} {R Q : S → S → Type 0} {a b : Ans S} → ((x y : S) → R x y → Q x y) → Both R a b → Both Q a b
weaker h (both_held p) = both_held (h _ _ p)
weaker h both_refused = both_refused

pub both_refuses : {S : Type 0} {R : S → S → Type 0} {a b : Ans S} (k : ℕ) → Both R a b → b ≡ refused k → a ≡ refused k
both_refuses k (both_held p) e = cc
both_refuses k both_refused e = e

pub both_holds : {S : Type 0} {R : S → S → Type 0} {a b : Ans S} (w : S) → Both R a b → b ≡ held w → (x : S) × ((a ≡ held x) × R x w)
both_holds w (both_held {x} {y} p) e = (x, (refl, rw (← held_inj y w e) p))
both_holds w (both_refused {n}) e = absurd (never n e)
  where
    never : (n : ℕ) → refused n ≡ held w → ⊥
    never n e = let z : ◌≡◌ {A = ℕ} 0 1 = cc in omega arith

module _ (A : Arith) where
  open A use {Num, lit}

  -- ---- a place, written alike in two lists
  abbrev read : List Num → ℕ → Num
  read l t = nth A l t

  keeps : (t p : ℕ) (v : Num) (l l' : List Num) → length l ≡ length l' → read l t ≡ read l' t → read (set l p v) t ≡ read (set l' p v) t
  keeps t p v [] [] e h = h
  keeps t p v [] (y ∷ l') e h = absurd (omega arith)
  keeps t p v (x ∷ l) [] e h = absurd (omega arith)
  keeps zero zero v (x ∷ l) (y ∷ l') e h = refl
  keeps zero (suc p) v (x ∷ l) (y ∷ l') e h = h
  keeps (suc t) zero v (x ∷ l) (y ∷ l') e h = h
  keeps (suc t) (suc p) v (x ∷ l) (y ∷ l') e h = keeps t p v l l' (omega arith) h

  writes : (p : ℕ) (v : Num) (l l' : List Num) → p < length l → length l ≡ length l' → read (set l p v) p ≡ read (set l' p v) p
  writes p v l l' h e = get_or-set_same l p v (lit nan) h ∙ sym (get_or-set_same l' p v (lit nan) (rw (← e) h))

  -- both places of a pair
  abbrev Agree : List Num → List Num → ℕ → ℕ → Type 0
  Agree l l' a b = (read l (cell a b) ≡ read l' (cell a b)) × (read l (cell b a) ≡ read l' (cell b a))

  -- the rows before i are written, of row i the first k pairs
  pub record Rows (n i : ℕ) (l l' : List Num) : Type 0 where
    pub len : length l ≡ sheet
    pub len' : length l' ≡ sheet
    pub rows : (a b : ℕ) → a < i → a ≤ b → b < n → Agree l l' a b

  record Row (n i k : ℕ) (l l' : List Num) : Type 0 where
    before : Rows n i l l'
    row : (b : ℕ) → i ≤ b → b < i + k → Agree l l' i b

  module _ (n i k : ℕ) (l l' : List Num) (q : i + k < n) (high : n ≤ side) (r : Row n i k l l') (v : Num) where
    abbrev e : ℕ
    e = cell i (i + k)

    abbrev e' : ℕ
    e' = cell (i + k) i

    abbrev m : List Num
    m = set l e v

    abbrev m' : List Num
    m' = set l' e v

    same_length : length l ≡ length l'
    same_length = r.before.len ∙ sym r.before.len'

    same_length' : length m ≡ length m'
    same_length' = length-set l e v ∙ same_length ∙ sym (length-set l' e v)

    stay : (t : ℕ) → read l t ≡ read l' t → read (set m e' v) t ≡ read (set m' e' v) t
    stay t h = keeps t e' v m m' same_length' (keeps t e v l l' same_length h)

    below : e < length l
    below = rw r.before.len (omega arith)

    below' : e' < length m
    below' = rw (length-set l e v, r.before.len) (omega arith)

    written : Agree (set m e' v) (set m' e' v) i (i + k)
    written = (keeps e e' v m m' same_length' (writes e v l l' below same_length), writes e' v m m' below' same_length')

    one_row : (b : ℕ) → i ≤ b → b < i + suc k → (t : Bool) → ltb b (i + k) ≡ t → Agree (set m e' v) (set m' e' v) i b
    one_row b p h true t = let g = r.row b p (ltb-true b (i + k) t) in (stay _ g.0, stay _ g.1)
    one_row b p h false t =
        let g : b ≡ i + k = (let u = ltb-false b (i + k) t in omega arith) in
        rw g written

    next : Row n i (suc k) (set m e' v) (set m' e' v)
    next =
        record {
          before =
              record {
                len = length-set m e' v ∙ length-set l e v ∙ r.before.len;
                len' = length-set m' e' v ∙ length-set l' e v ∙ r.before.len';
                rows = λ a b p q₁ q₂. let g = r.before.rows a b p q₁ q₂ in (stay _ g.0, stay _ g.1);
              };
          row = λ b p h. one_row b p h (ltb b (i + k)) refl;
        }

  module _ (F : Functions Num) (s : SheetsIn Num) (high : s.count ≤ side) where
    abbrev n : ℕ
    n = s.count

    turn_both : (i k : ℕ) (l l' : List Num) → k < n - i → Row n i k l l' → Both (Row n i (suc k)) (alpha_turn A F s i k l) (alpha_turn A F s i k l')
    unfolding alpha_turn
    turn_both i k l l' q r = same_both _ (alpha A F _ _ _) _ _ (λ v. both_held (next n i k l l' (omega arith) high r v))

    row_rows : (i : ℕ) (l l' : List Num) → i < n → Row n i (n - i) l l' → Rows n (suc i) l l'
    row_rows i l l' h r = record { len = r.before.len; len' = r.before.len'; rows = λ a b p q₁ q₂. go a b p q₁ q₂ (ltb a i) refl }
      where
        go : (a b : ℕ) → a < suc i → a ≤ b → b < n → (t : Bool) → ltb a i ≡ t → Agree l l' a b
        go a b p q₁ q₂ true t = r.before.rows a b (ltb-true a i t) q₁ q₂
        go a b p q₁ q₂ false t =
            let g : a ≡ i = (let u = ltb-false a i t in omega arith) in
            rw g (r.row b (rw g at q₁) (omega arith))

    row_both : (i : ℕ) (l l' : List Num) → i < n → Rows n i l l' → Both (Rows n (suc i)) (alpha_row A F s i l) (alpha_row A F s i l')
    unfolding alpha_row
    row_both i l l' h r = weaker (λ x y. row_rows i x y h) (walk_both (Row n i) (alpha_turn A F s i) (n - i) l l' (λ k x y q p. turn_both i k x y q p) (record { before = r; row = λ b p q. absurd (omega arith) }))

    pub alphas_both : (l : List Num) → length l ≡ sheet → Both (Rows n n) (alphas A F s) (walk n (alpha_row A F s) l)
    unfolding alphas
    alphas_both l h = walk_both (Rows n) (alpha_row A F s) n _ l (λ i x y q p. row_both i x y q p) (record { len = refl; len' = h; rows = λ a b p. absurd (omega arith) })

  -- what is read at a pair
  pub rows_read : (n : ℕ) (l l' : List Num) → Rows n n l l' → (i j : ℕ) → i < n → j < n → read l (cell i j) ≡ read l' (cell i j)
  rows_read n l l' r i j p q = go (ltb i j) refl
    where
      go : (t : Bool) → ltb i j ≡ t → read l (cell i j) ≡ read l' (cell i j)
      go true t = (let u = ltb-true i j t in r.rows i j p (omega arith) q).0
      go false t = (let u = ltb-false i j t in r.rows j i q (omega arith) p).1
