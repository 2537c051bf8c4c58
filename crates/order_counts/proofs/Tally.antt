-- Lists of orders counted by their first order. Assumes nothing.
use Prim.Native.Nat.{ℕ, zero, suc, ◌+◌, ◌^◌}
use native.Mathlib.Nat.{pow-succ', add_assoc, zero-add}
use native.Mathlib.Omega.{arith}
use mathlib.Core.Path.{◌≡◌, refl, sym, ap, ◌∙◌}
use mathlib.Core.Bool.{Bool, true, false, cond}
use mathlib.Core.List.{List, [], ◌∷◌, ◌++◌, map}
use lib.ListN.{length}
use Rattle.order_counts.specs.Counts.{ticked, how_many}

many_append : {S : Type 0} (p : S → Bool) (xs ys : List S) → how_many p (xs ++ ys) ≡ how_many p xs + how_many p ys
unfolding how_many
many_append p [] ys = sym (zero-add (how_many p ys))
many_append p (x ∷ xs) ys = ap (λ (k : ℕ). cond (p x) 1 0 + k) (many_append p xs ys) ∙ sym (add_assoc (cond (p x) 1 0) (how_many p xs) (how_many p ys))

many_map : {S T : Type 0} (p : T → Bool) (f : S → T) (xs : List S) → how_many p (map f xs) ≡ how_many (λ x. p (f x)) xs
unfolding how_many
many_map p f [] = refl
many_map p f (x ∷ xs) = ap (λ (k : ℕ). cond (p (f x)) 1 0 + k) (many_map p f xs)

-- of the lists of n orders, those that pass a test, by the first order
unfoldable pub tally : ℕ → (List ℕ → Bool) → ℕ
tally n p = how_many p (ticked n)

pub tally_next : (n : ℕ) (p : List ℕ → Bool) → tally (suc n) p ≡ tally n (λ l. p (0 ∷ l)) + (tally n (λ l. p (1 ∷ l)) + (tally n (λ l. p (2 ∷ l)) + tally n (λ l. p (3 ∷ l))))
unfolding tally ticked
tally_next n p = simp (many_append, many_map)

-- tests that agree on lists of n orders
pub tally_same : (n : ℕ) (p q : List ℕ → Bool) → ((l : List ℕ) → length l ≡ n → p l ≡ q l) → tally n p ≡ tally n q
unfolding tally ticked how_many
tally_same zero p q h = rw (h [] refl)
tally_same (suc n) p q h =
    let e0 = tally_same n (λ l. p (0 ∷ l)) (λ l. q (0 ∷ l)) (λ l e. h (0 ∷ l) (ap suc e)) in
    let e1 = tally_same n (λ l. p (1 ∷ l)) (λ l. q (1 ∷ l)) (λ l e. h (1 ∷ l) (ap suc e)) in
    let e2 = tally_same n (λ l. p (2 ∷ l)) (λ l. q (2 ∷ l)) (λ l e. h (2 ∷ l) (ap suc e)) in
    let e3 = tally_same n (λ l. p (3 ∷ l)) (λ l. q (3 ∷ l)) (λ l e. h (3 ∷ l) (ap suc e)) in
    rw (tally_next n p, tally_next n q, e0, e1, e2, e3)

pub tally_all : (n : ℕ) → tally n (λ _. true) ≡ 4 ^ n
unfolding tally ticked how_many
tally_all zero = refl
tally_all (suc n) = let h = tally_all n in let g = pow-succ' 4 n in tally_next n (λ _. true) ∙ omega (arith, h, g)

pub tally_none : (n : ℕ) → tally n (λ _. false) ≡ 0
unfolding tally ticked how_many
tally_none zero = refl
tally_none (suc n) = let h = tally_none n in tally_next n (λ _. false) ∙ omega (arith, h)
