-- The order walk over a list, read by its first order: what is left is one pass over the others. Assumes nothing.
use Prim.Native.Nat.{ℕ, zero, suc, ◌*◌, max}
use native.Mathlib.Omega.{arith}
use mathlib.Core.Logic.{◌⊎◌, inl, inr}
use mathlib.Core.Path.{◌≡◌, refl, sym, ap, ◌∙◌}
use mathlib.Core.Bool.{Bool, true, false, not, ◌&&◌, ◌||◌}
use mathlib.Core.List.{List, [], ◌∷◌}
use lib.Dec.{eqb, leb}
use lib.ListN.{get_or, length}
use borrow.Author.Tests.{lt-leb}
use Rattle.number.specs.Ans.{Ans, held, refused, ◌>>=◌, demand}
use Rattle.number.specs.Walk.{walk}
use Rattle.number.proofs.Walk.{then_same, then_then, walk_same}
use Rattle.saftvrqmie_parameters.specs.Parameters.{pair_orders, order_row, order_walk}
use Rattle.saftvrqmie_parameters.proofs.Laws.{above}

-- ---- answers that go on

then_held : {S : Type 0} (a : Ans S) → (a >>= λ x. held x) ≡ a
unfolding ◌>>=◌
then_held (held x) = refl
then_held (refused n) = refl

-- a walk begins with its first turn
walk_first : {S : Type 0} (n : ℕ) (f : ℕ → S → Ans S) (s : S) → walk (suc n) f s ≡ (f 0 s >>= λ x. walk n (λ i. f (suc i)) x)
unfolding walk ◌>>=◌
walk_first zero f s = sym (then_held (f 0 s))
walk_first (suc n) f s = ap (λ a. a >>= f (suc n)) (walk_first n f s) ∙ then_then (f 0 s) (λ x. walk n (λ i. f (suc i)) x) (f (suc n))

-- ---- the walk, order by order

-- order a against each of a list
unfoldable pub scan : ℕ → List ℕ → Bool → Ans Bool
scan a [] s = held s
scan a (x ∷ xs) s = pair_orders a x >>= scan a xs

unfoldable pub rows : List ℕ → List ℕ → Bool → Ans Bool
rows [] l s = held s
rows (x ∷ xs) l s = scan x l true >>= rows xs l

scan_is : (a : ℕ) (l : List ℕ) (s : Bool) → walk (length l) (λ j _. pair_orders a (get_or l j 0)) s ≡ scan a l s
unfolding scan walk
scan_is a [] s = refl
scan_is a (x ∷ xs) s = walk_first (length xs) (λ j _. pair_orders a (get_or (x ∷ xs) j 0)) s ∙ then_same (pair_orders a x) _ _ (scan_is a xs)

rows_is : (t l : List ℕ) (s : Bool) → walk (length t) (λ i _. scan (get_or t i 0) l true) s ≡ rows t l s
unfolding rows walk
rows_is [] l s = refl
rows_is (x ∷ xs) l s = walk_first (length xs) (λ i _. scan (get_or (x ∷ xs) i 0) l true) s ∙ then_same (scan x l true) _ _ (rows_is xs l)

pub walk_is : (l : List ℕ) → order_walk (length l) l ≡ rows l l true
unfolding order_walk order_row
walk_is l = walk_same (length l) _ (λ i _. scan (get_or l i 0) l true) true (λ i _. scan_is (get_or l i 0) l true) ∙ rows_is l l true

-- ---- orders that are at most 2

has : ℕ → List ℕ → Bool
has k [] = false
has k (x ∷ xs) = eqb x k || has k xs

-- an order above 2
high : (a x : ℕ) → pair_orders a (suc (suc (suc x))) ≡ refused 4
high a x = sym (above a (suc (suc (suc x))) (omega arith))

high_scan : (a x : ℕ) (l : List ℕ) (s : Bool) → scan a (suc (suc (suc x)) ∷ l) s ≡ refused 4
unfolding scan ◌>>=◌
high_scan a x l s = rw (high a x)

never : {n : ℕ} {x : Bool} {A : Type 0} → refused n ≡ held x → A
never {n} {x} p = let z : ◌≡◌ {A = ℕ} 0 1 = cc in absurd (omega arith)

-- where no order is above 2, a row of 1 meets 5 at a 2, and a row of 2 at a 1
one_row : (l : List ℕ) → scan 0 l true ≡ held true → scan 1 l true ≡ demand 5 (not (has 2 l))
unfolding scan has pair_orders demand ◌>>=◌
one_row [] p = refl
one_row (zero ∷ l) p = one_row l p
one_row (suc zero ∷ l) p = one_row l p
one_row (suc (suc zero) ∷ l) p = refl
one_row (suc (suc (suc x)) ∷ l) p = never (sym (high_scan 0 x l true) ∙ p)

two_row : (l : List ℕ) → scan 0 l true ≡ held true → scan 2 l true ≡ demand 5 (not (has 1 l))
unfolding scan has pair_orders demand ◌>>=◌
two_row [] p = refl
two_row (zero ∷ l) p = two_row l p
two_row (suc zero ∷ l) p = refl
two_row (suc (suc zero) ∷ l) p = two_row l p
two_row (suc (suc (suc x)) ∷ l) p = never (sym (high_scan 0 x l true) ∙ p)

-- 5 where a is the rest of the walk's and q this row's
abbrev mixed : Bool → Bool → Bool → Bool → Ans Bool
mixed p q r s = demand 5 (not ((p && q) || (r && s)))

one_more : (p q r s : Bool) → (demand 5 (not q) >>= λ _. mixed p q r s) ≡ mixed true q r s
unfolding demand ◌>>=◌
one_more p true r s = refl
one_more true false r s = refl
one_more false false r s = refl

two_more : (p q r s : Bool) → (demand 5 (not s) >>= λ _. mixed p q r s) ≡ mixed p q true s
unfolding demand ◌>>=◌
two_more true true r true = refl
two_more true false r true = refl
two_more false q r true = refl
two_more p q true false = refl
two_more p q false false = refl

-- what a demand holds is true
demanded : (n : ℕ) (b : Bool) (f : Bool → Ans Bool) (r : Ans Bool) → f true ≡ r → (demand n b >>= f) ≡ (demand n b >>= λ _. r)
unfolding demand ◌>>=◌
demanded n true f r h = h
demanded n false f r h = refl

-- the rows of t against l, no order above 2
rows_mixed : (t l : List ℕ) → scan 0 t true ≡ held true → scan 0 l true ≡ held true → rows t l true ≡ mixed (has 1 t) (has 2 l) (has 2 t) (has 1 l)
unfolding scan rows has pair_orders demand ◌>>=◌
rows_mixed [] l p q = refl
rows_mixed (zero ∷ t) l p q = rw q (rows_mixed t l p q)
rows_mixed (suc zero ∷ t) l p q =
    rw (one_row l q)
    (demanded 5 (not (has 2 l)) (rows t l) _ (rows_mixed t l p q) ∙ one_more (has 1 t) (has 2 l) (has 2 t) (has 1 l))
rows_mixed (suc (suc zero) ∷ t) l p q =
    rw (two_row l q)
    (demanded 5 (not (has 1 l)) (rows t l) _ (rows_mixed t l p q) ∙ two_more (has 1 t) (has 2 l) (has 2 t) (has 1 l))
rows_mixed (suc (suc (suc x)) ∷ t) l p q = never (sym (high_scan 0 x t true) ∙ p)

-- ---- by the first order

-- one pass after a 0: a says that a 1 was met, b that a 2 was
unfoldable pub fall : Bool → Bool → List ℕ → Ans Bool
fall a b [] = demand 5 (not (a && b))
fall a b (x ∷ xs) = demand 4 (leb x 2) >>= λ _. fall (a || eqb x 1) (b || eqb x 2) xs

high_fall : (a b : Bool) (x : ℕ) (l : List ℕ) → fall a b (suc (suc (suc x)) ∷ l) ≡ refused 4
unfolding fall demand ◌>>=◌
high_fall a b x l = rw (lt-leb (suc (suc (suc x))) 2 (omega arith))

or_or : (a b c : Bool) → ((a || b) || c) ≡ (a || (b || c))
or_or true b c = refl
or_or false b c = refl

fall_low : (a b : Bool) (l : List ℕ) → scan 0 l true ≡ held true → fall a b l ≡ demand 5 (not ((a || has 1 l) && (b || has 2 l)))
unfolding fall scan has pair_orders demand ◌>>=◌
fall_low true true [] p = refl
fall_low true false [] p = refl
fall_low false b [] p = refl
fall_low a b (zero ∷ l) p = rw (or_or a false (has 1 l), or_or b false (has 2 l)) at (fall_low (a || false) (b || false) l p)
fall_low a b (suc zero ∷ l) p = rw (or_or a true (has 1 l), or_or b false (has 2 l)) at (fall_low (a || true) (b || false) l p)
fall_low a b (suc (suc zero) ∷ l) p = rw (or_or a false (has 1 l), or_or b true (has 2 l)) at (fall_low (a || false) (b || true) l p)
fall_low a b (suc (suc (suc x)) ∷ l) p = never (sym (high_scan 0 x l true) ∙ p)

-- a row of 0 passes, or an order is above 2 and every pass meets 4
zero_row : (a b : Bool) (l : List ℕ) → (scan 0 l true ≡ held true) ⊎ ((scan 0 l true ≡ refused 4) × (fall a b l ≡ refused 4))
unfolding fall scan pair_orders demand ◌>>=◌
zero_row a b [] = inl refl
zero_row a b (zero ∷ l) = zero_row (a || false) (b || false) l
zero_row a b (suc zero ∷ l) = zero_row (a || true) (b || false) l
zero_row a b (suc (suc zero) ∷ l) = zero_row (a || false) (b || true) l
zero_row a b (suc (suc (suc x)) ∷ l) = inr (high_scan 0 x l true, high_fall a b x l)

either_way : (p q : Bool) → mixed p q q p ≡ demand 5 (not (p && q))
unfolding demand
either_way true true = refl
either_way true false = refl
either_way false true = refl
either_way false false = refl

first_0 : (t : List ℕ) → rows (0 ∷ t) (0 ∷ t) true ≡ fall false false t
unfolding rows scan has pair_orders demand ◌>>=◌
first_0 t = go (zero_row false false t)
  where
    go : (scan 0 t true ≡ held true) ⊎ ((scan 0 t true ≡ refused 4) × (fall false false t ≡ refused 4)) → (scan 0 t true >>= rows t (0 ∷ t)) ≡ fall false false t
    go (inl h) = rw h (rows_mixed t (0 ∷ t) h h ∙ either_way (has 1 t) (has 2 t) ∙ sym (fall_low false false t h))
    go (inr h) = rw (h.0, h.1)

-- a row of 1 passes where there are but 0 and 1, one of 2 where there are but 0 and 2
one_passes : (t : List ℕ) → scan 1 t true ≡ held true → (scan 0 t true ≡ held true) × (has 2 t ≡ false)
unfolding scan has pair_orders demand ◌>>=◌
one_passes [] p = (refl, refl)
one_passes (zero ∷ t) p = one_passes t p
one_passes (suc zero ∷ t) p = one_passes t p
one_passes (suc (suc zero) ∷ t) p = never p
one_passes (suc (suc (suc x)) ∷ t) p = never (sym (high_scan 1 x t true) ∙ p)

two_passes : (t : List ℕ) → scan 2 t true ≡ held true → (scan 0 t true ≡ held true) × (has 1 t ≡ false)
unfolding scan has pair_orders demand ◌>>=◌
two_passes [] p = (refl, refl)
two_passes (zero ∷ t) p = two_passes t p
two_passes (suc zero ∷ t) p = never p
two_passes (suc (suc zero) ∷ t) p = two_passes t p
two_passes (suc (suc (suc x)) ∷ t) p = never (sym (high_scan 2 x t true) ∙ p)

no_two : (p q : Bool) → q ≡ false → mixed p q q true ≡ held true
unfolding demand
no_two true q e = rw e
no_two false q e = rw e

no_one : (p q : Bool) → q ≡ false → mixed q true p q ≡ held true
unfolding demand
no_one true q e = rw e
no_one false q e = rw e

-- a row passes or refuses
pair_ends : (a x : ℕ) → (pair_orders a x ≡ held true) ⊎ ((k : ℕ) × (pair_orders a x ≡ refused k))
unfolding pair_orders demand ◌>>=◌
pair_ends a x = go (leb (max a x) 2) (not (eqb (a * x) 2))
  where
    go : (p q : Bool) → ((demand 4 p >>= λ _. demand 5 q) ≡ held true) ⊎ ((k : ℕ) × ((demand 4 p >>= λ _. demand 5 q) ≡ refused k))
    go true true = inl refl
    go true false = inr (5, refl)
    go false q = inr (4, refl)

row_ends : (a : ℕ) (t : List ℕ) → (scan a t true ≡ held true) ⊎ ((k : ℕ) × (scan a t true ≡ refused k))
unfolding scan ◌>>=◌
row_ends a [] = inl refl
row_ends a (x ∷ t) = go (pair_ends a x) (row_ends a t)
  where
    go : (pair_orders a x ≡ held true) ⊎ ((k : ℕ) × (pair_orders a x ≡ refused k)) → (scan a t true ≡ held true) ⊎ ((k : ℕ) × (scan a t true ≡ refused k))
        → ((pair_orders a x >>= scan a t) ≡ held true) ⊎ ((k : ℕ) × ((pair_orders a x >>= scan a t) ≡ refused k))
    go (inl p) r = rw p r
    go (inr p) r = inr (p.0, rw p.1)

first_1 : (t : List ℕ) → rows (1 ∷ t) (1 ∷ t) true ≡ scan 1 t true
unfolding rows scan has pair_orders demand ◌>>=◌
first_1 t = go (row_ends 1 t)
  where
    go : (scan 1 t true ≡ held true) ⊎ ((k : ℕ) × (scan 1 t true ≡ refused k)) → (scan 1 t true >>= rows t (1 ∷ t)) ≡ scan 1 t true
    go (inl h) = let low = one_passes t h in rw h (rows_mixed t (1 ∷ t) low.0 low.0 ∙ no_two (has 1 t) (has 2 t) low.1)
    go (inr h) = rw h.1

first_2 : (t : List ℕ) → rows (2 ∷ t) (2 ∷ t) true ≡ scan 2 t true
unfolding rows scan has pair_orders demand ◌>>=◌
first_2 t = go (row_ends 2 t)
  where
    go : (scan 2 t true ≡ held true) ⊎ ((k : ℕ) × (scan 2 t true ≡ refused k)) → (scan 2 t true >>= rows t (2 ∷ t)) ≡ scan 2 t true
    go (inl h) = let low = two_passes t h in rw h (rows_mixed t (2 ∷ t) low.0 low.0 ∙ no_one (has 2 t) (has 1 t) low.1)
    go (inr h) = rw h.1

first_3 : (t : List ℕ) → rows (3 ∷ t) (3 ∷ t) true ≡ refused 4
unfolding rows scan pair_orders demand ◌>>=◌
first_3 t = refl

-- the walk of a list of n + 1 orders, by its first
module _ (n : ℕ) (t : List ℕ) (e : length t ≡ n) where
  pub walk_0 : order_walk (suc n) (0 ∷ t) ≡ fall false false t
  walk_0 = rw e at (walk_is (0 ∷ t)) ∙ first_0 t

  pub walk_1 : order_walk (suc n) (1 ∷ t) ≡ scan 1 t true
  walk_1 = rw e at (walk_is (1 ∷ t)) ∙ first_1 t

  pub walk_2 : order_walk (suc n) (2 ∷ t) ≡ scan 2 t true
  walk_2 = rw e at (walk_is (2 ∷ t)) ∙ first_2 t

  pub walk_3 : order_walk (suc n) (3 ∷ t) ≡ refused 4
  walk_3 = rw e at (walk_is (3 ∷ t)) ∙ first_3 t
