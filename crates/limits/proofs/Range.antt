-- What the library's `all` makes of the numbers below a count, as the definitions have it. Assumes nothing.
use Rattle.std.proofs.Common.{◌≡◌, ℕ, zero, suc, ◌+◌, ◌≤◌, Bool, ◌&&◌, take, refl, sym, ◌∙◌, ap, add-one, arith}
use Rattle.std.proofs.lemmas.List.{take_all}
use Rattle.std.proofs.lemmas.List.FromFn.{length-range_with_len, get_or-range_with_len}
use Rattle.std.proofs.lemmas.List.Folds.{list_all_more}
use Rattle.std.specs.List.{list_all, range_with_len}
use Rattle.number.specs.Walk.{turns, every}

module _ (p : ℕ → Bool) (n : ℕ) where
  front : (k : ℕ) → k ≤ n → list_all p (take k (range_with_len 0 n)) ≡ every k p
  unfolding every turns
  front zero h = refl
  front (suc k) h =
      let l = range_with_len 0 n in
      let long = length-range_with_len 0 n in
      let e : 0 + k ≡ k = omega arith in
      rw (← front k (omega arith), ← add-one) (list_all_more p l k 0 (omega (arith, long)) ∙ ap (λ x. list_all p (take k l) && p x) (get_or-range_with_len 0 n k 0 (omega arith) ∙ e))

  pub every_range : list_all p (range_with_len 0 n) ≡ every n p
  every_range =
      let long = length-range_with_len 0 n in
      ap (list_all p) (sym (take_all n (range_with_len 0 n) (omega (arith, long)))) ∙ front n (omega arith)
