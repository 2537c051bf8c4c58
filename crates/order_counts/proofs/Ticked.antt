-- `ticked n` is the set of the 4^n lists: 4^n members, each of n orders below 4, and each such list once. Assumes nothing.
use Prim.Native.Nat.{ℕ, zero, suc, ◌^◌}
use native.Mathlib.Nat.{pow-succ'}
use native.Mathlib.Omega.{arith}
use mathlib.Core.Path.{◌≡◌, refl, sym, ◌∙◌}
use mathlib.Core.Bool.{true, ◌&&◌, false≢true}
use mathlib.Core.List.{List, [], ◌∷◌}
use lib.Dec.{eqb, eqb-suc-suc}
use lib.ListN.{length}
use borrow.Author.Tests.{le-ltb}
use Rattle.order_counts.specs.Counts.{ticked, how_many, below4, same}
use Rattle.order_counts.proofs.Tally.{tally, tally_next, tally_same, tally_all, tally_none}

many_all : {S : Type 0} (xs : List S) → how_many (λ _. true) xs ≡ length xs
unfolding how_many
many_all [] = refl
many_all (x ∷ xs) = let h = many_all xs in omega (arith, h)

pub size : (n : ℕ) → length (ticked n) ≡ 4 ^ n
unfolding tally
size n = sym (many_all (ticked n)) ∙ tally_all n

-- each member is a list of n orders below 4
pub members : (n : ℕ) → how_many (λ l. eqb (length l) n && below4 l) (ticked n) ≡ 4 ^ n
unfolding tally ticked how_many below4
members zero = refl
members (suc n) =
    let h = members n in
    let e = tally_same n (λ l. eqb (suc (length l)) (suc n) && below4 l) (λ l. eqb (length l) n && below4 l) (λ l _. rw (eqb-suc-suc (length l) n)) in
    let g = tally_next n (λ l. eqb (length l) (suc n) && below4 l) in
    omega (arith, h, e, g, pow-succ' 4 n)

-- each list of orders below 4 is a member, once
counted : (l : List ℕ) → below4 l ≡ true → tally (length l) (same l) ≡ 1
unfolding tally ticked how_many below4 same
counted [] p = refl
counted (zero ∷ l) p = let n = length l in omega (arith, counted l p, tally_next n (same (0 ∷ l)), tally_none n)
counted (suc zero ∷ l) p = let n = length l in omega (arith, counted l p, tally_next n (same (1 ∷ l)), tally_none n)
counted (suc (suc zero) ∷ l) p = let n = length l in omega (arith, counted l p, tally_next n (same (2 ∷ l)), tally_none n)
counted (suc (suc (suc zero)) ∷ l) p = let n = length l in omega (arith, counted l p, tally_next n (same (3 ∷ l)), tally_none n)
counted (suc (suc (suc (suc x))) ∷ l) p = absurd (false≢true (rw (le-ltb (suc (suc (suc (suc x)))) 4 (omega arith)) at p))

pub once : (n : ℕ) (l : List ℕ) → length l ≡ n → below4 l ≡ true → how_many (same l) (ticked n) ≡ 1
unfolding tally
once n l e p = rw e at (counted l p)
