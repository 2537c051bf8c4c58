-- A list that is filled place by place. Assumes nothing.
use Prim.Native.Nat.{ℕ, zero, suc, ◌≤◌, ◌<◌}
use native.Mathlib.Omega.{arith}
use native.Mathlib.Nat.{not-suc-le-zero}
use borrow.Author.Tests.{ltb-true, ltb-false}
use lib.Dec.{ltb}
use lib.ListN.{length, get_or, set, length-set}
use lib.Seq.{get_or-set_same, get_or-set_other}
use mathlib.Core.Bool.{Bool, true, false}
use mathlib.Core.List.{List}
use mathlib.Core.Path.{◌≡◌, refl, ◌∙◌}
use Rattle.number.specs.Walk.{turns}

filled_length : {S : Type 0} (f : ℕ → S) (n : ℕ) (l : List S) → length (turns n (λ i s. set s i (f i)) l) ≡ length l
unfolding turns
filled_length f zero l = refl
filled_length f (suc n) l = length-set (turns n (λ i s. set s i (f i)) l) n (f n) ∙ filled_length f n l

pub filled : {S : Type 0} (f : ℕ → S) (z : S) (n j : ℕ) (l : List S) → j < n → n ≤ length l → get_or (turns n (λ i s. set s i (f i)) l) j z ≡ f j
unfolding turns
filled f z zero j l h q = absurd (not-suc-le-zero h)
filled f z (suc n) j l h q = either (λ k. filled f z n j l k (omega arith)) (ltb j n) refl
  where
    either : (j < n → get_or (turns n (λ i s. set s i (f i)) l) j z ≡ f j) → (t : Bool) → ltb j n ≡ t → get_or (set (turns n (λ i s. set s i (f i)) l) n (f n)) j z ≡ f j
    either before true e =
        let k = ltb-true j n e in
        get_or-set_other (turns n (λ i s. set s i (f i)) l) n j (f n) z (λ (i : j ≡ n). omega (arith, i, k)) ∙ before k
    either before false e =
        let i : j ≡ n = (let k = ltb-false j n e in omega arith) in
        rw i (get_or-set_same (turns n (λ i s. set s i (f i)) l) n (f n) z (rw (filled_length f n l) q))
