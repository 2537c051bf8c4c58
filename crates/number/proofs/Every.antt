-- What the library makes of a list's front, `all` and a copy, as the definitions have it, number by number. Assumes nothing.
use Rattle.std.proofs.Common.{◌≡◌, ℕ, zero, suc, ◌+◌, ◌≤◌, ◌<◌, Bool, List, ◌++◌, length, take, drop, drop_of_length-le, set, get_or, sym, refl, ◌∙◌, ap, add-one, arith}
use Rattle.std.proofs.Math.Seq.{paste-suc}
use Rattle.std.proofs.lemmas.List.{take_all}
use mathlib.Core.List.{append-nil}
use Rattle.std.specs.Prelude.{slice_index_or}
use Rattle.std.specs.List.{list_all}
use Rattle.std.proofs.lemmas.List.Folds.{list_all_more}
use Rattle.number.specs.Walk.{turns, every, filled}

pub every_take : {S : Type 0} (p : S → Bool) (d : S) (l : List S) (n : ℕ) → n ≤ length l → list_all p (take n l) ≡ every n (λ i. p (slice_index_or l i d))
unfolding every turns
every_take p d l zero h = refl
every_take p d l (suc n) h = rw (← every_take p d l n (omega arith), ← add-one) (list_all_more p l n d (omega arith))

-- of the whole list
pub every_all : {S : Type 0} (p : S → Bool) (d : S) (l : List S) (n : ℕ) → length l ≡ n → list_all p l ≡ every n (λ i. p (slice_index_or l i d))
every_all p d l n e = ap (list_all p) (sym (take_all n l (omega (arith, e)))) ∙ every_take p d l n (omega (arith, e))

module _ {S : Type 0} (f l : List S) (d : S) where
  one_more : (n : ℕ) → n < length f → n < length l → set (take n f ++ drop n l) n (get_or f n d) ≡ take (suc n) f ++ drop (suc n) l
  one_more n a b =
      let q : 0 + n ≡ n = omega arith in
      let r : 0 + suc n ≡ suc n = omega arith in
      (rw q at (paste-suc l 0 f n d (rw q b) a)) ∙ ap (λ (m : ℕ). take (suc n) f ++ drop m l) r

  pub copied_front : (n : ℕ) → n ≤ length f → n ≤ length l → filled n (λ i. slice_index_or f i d) l ≡ take n f ++ drop n l
  unfolding turns
  copied_front zero a b = refl
  copied_front (suc n) a b = rw (copied_front n (omega arith) (omega arith)) (one_more n (omega arith) (omega arith))

  -- into a list that is as long
  pub copied_all : (n : ℕ) → n ≤ length f → length l ≡ n → take n f ≡ filled n (λ i. slice_index_or f i d) l
  copied_all n a e =
      let h : length l ≤ n = omega (arith, e) in
      sym (copied_front n a (omega (arith, e)) ∙ rw (drop_of_length-le l h) (append-nil (take n f)))
