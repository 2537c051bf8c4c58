-- How the order lists fall, counted by the order walk itself: of the 4^n lists, how many pass, meet 4 and meet 5.
use Rattle.std.specs.Prelude.{ℕ, zero, suc, ◌+◌, eqb, ltb, Bool, true, false, ◌&&◌, cond, List, [], ◌∷◌, ◌++◌, map}
use Rattle.number.specs.Ans.{Ans, held, refused, ◌>>=◌, demand}
use Rattle.limits.specs.Limits.{count_within}
use Rattle.saftvrqmie_parameters.specs.Parameters.{order_walk}
use Rattle.order_counts.specs.declared.OrderCounts.{OrderCounts}

-- each list of n orders that can be ticked, 0 to 3 for each component, once
unfoldable pub ticked : ℕ → List (List ℕ)
ticked zero = [] ∷ []
ticked (suc n) = map (λ l. 0 ∷ l) (ticked n) ++ (map (λ l. 1 ∷ l) (ticked n) ++ (map (λ l. 2 ∷ l) (ticked n) ++ map (λ l. 3 ∷ l) (ticked n)))

-- such a list, and two of them that agree: `ticked` holds each once and no other (proofs/Ticked.antt)
unfoldable pub below4 : List ℕ → Bool
below4 [] = true
below4 (x ∷ l) = ltb x 4 && below4 l

unfoldable pub same : List ℕ → List ℕ → Bool
same [] [] = true
same [] (y ∷ m) = false
same (x ∷ l) [] = false
same (x ∷ l) (y ∷ m) = eqb x y && same l m

-- how many of a list's members pass a test
unfoldable pub how_many : {S : Type 0} → (S → Bool) → List S → ℕ
how_many p [] = 0
how_many p (x ∷ xs) = cond (p x) 1 0 + how_many p xs

-- the walk went through, or met the refusal k
unfoldable pub passes : Ans Bool → Bool
passes (held x) = true
passes (refused j) = false

unfoldable pub meets : ℕ → Ans Bool → Bool
meets k (held x) = false
meets k (refused j) = eqb j k

-- of the lists of n orders, how many the walk over the pairs ends so
unfoldable pub falling : (Ans Bool → Bool) → ℕ → ℕ
falling t n = how_many (λ l. t (order_walk n l)) (ticked n)

-- the operation: 'For 1 to 12 components (else 1)'
unfoldable pub order_counts : ℕ → Ans OrderCounts
order_counts n = demand 1 (count_within n) >>= λ _. held (record { passing = falling passes n; meeting_4 = falling (meets 4) n; meeting_5 = falling (meets 5) n })
