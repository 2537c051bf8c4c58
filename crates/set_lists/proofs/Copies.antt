-- What a copy leaves, as the definitions have it, number by number. Assumes nothing.
use Rattle.std.proofs.Common.{◌≡◌, ℕ, zero, suc, ◌+◌, ◌-◌, ◌<◌, ◌≤◌, Bool, List, ◌++◌, length, take, drop, set, get_or, refl, sym, ◌∙◌, ap, arith}
use Rattle.std.specs.List.{list_all}
use mathlib.Core.Bool.{true, ◌&&◌}
use Rattle.std.proofs.lemmas.List.{get_or-drop, take_all}
use lib.ListN.{length-drop, replicate, length-replicate}
use lib.Seq.{drop-drop, paste, paste-suc, paste-zero}
use mathlib.Core.List.{append_assoc}
use lib.Ieee.{Float, nan}
use Rattle.number.specs.Arith.{zero64}
use Rattle.number.specs.Lists.{at}
use Rattle.number.specs.Walk.{turns, filled, every}
use Rattle.number.proofs.Every.{every_take, copied_all}
use Rattle.set_lists.specs.Sets.{copied, taken}
use Rattle.set_lists.specs.Written.{placed}

turns_same : {S : Type 0} (f g : ℕ → S → S) (s : S) (n : ℕ) → ((i : ℕ) → i < n → (x : S) → f i x ≡ g i x) → turns n f s ≡ turns n g s
unfolding turns
turns_same f g s zero h = refl
turns_same f g s (suc n) h = ap (f n) (turns_same f g s n (λ i b. h i (omega (arith, b)))) ∙ h n (omega arith) (turns n g s)

-- a list whose elements are given one by one
pub filled_by : {S : Type 0} (f : ℕ → S) (d : S) (n : ℕ) (ys l : List S) → length ys ≡ n → length l ≡ n → ((i : ℕ) → i < n → get_or ys i d ≡ f i) → ys ≡ filled n f l
filled_by f d n ys l a b h =
    sym (take_all n ys (omega (arith, a)))
    ∙ copied_all ys l d n (omega (arith, a)) b
    ∙ turns_same (λ i s. set s i (get_or ys i d)) (λ i s. set s i (f i)) l n (λ i e s. ap (set s i) (h i e))

-- a test of each number of a part
pub every_part : (test : ℕ → Bool) (l : List ℕ) (from n : ℕ) → from + n ≤ length l → list_all test (take (from + n - from) (drop from l)) ≡ every n (λ j. test (get_or l (from + j) 0))
unfolding every
every_part test l from n h =
    let k = length-drop from l in
    let e : from + n - from ≡ n = omega arith in
    rw e (every_take test 0 (drop from l) n (omega (arith, h, k)) ∙ turns_same (λ i b. b && test (get_or (drop from l) i 0)) (λ i b. b && test (get_or l (from + i) 0)) true n (λ i _ b. ap (λ x. b && test x) (get_or-drop from l i 0)))

taken_is : (n : ℕ) (d : List Float) (from : ℕ) → from + n ≤ length d → take n (drop from d) ≡ taken n d from
unfolding copied
taken_is n d from h =
    let k = length-drop from d in
    let l = replicate n zero64 in
    copied_all (drop from d) l nan n (omega (arith, h, k)) (length-replicate n zero64)
    ∙ turns_same (λ i s. set s i (at (drop from d) i)) (λ i s. set s i (at d (from + i))) l n (λ i _ s. ap (set s i) (get_or-drop from d i nan))

pub taken_part : (n : ℕ) (d : List Float) (from : ℕ) → from + n ≤ length d → take (from + n - from) (drop from d) ≡ taken n d from
taken_part n d from h = let e : from + n - from ≡ n = omega arith in rw e (taken_is n d from h)

-- a list that is as long
pub taken_whole : (n : ℕ) (d : List Float) → length d ≡ n → d ≡ taken n d 0
taken_whole n d e = sym (take_all n d (omega (arith, e))) ∙ taken_is n d 0 (omega (arith, e))

module _ (d l : List Float) (to : ℕ) where
  pasted : (n : ℕ) → n ≤ length d → to + n ≤ length l → placed n d to l ≡ paste l to d n
  unfolding placed turns
  pasted zero a b = paste-zero l to d
  pasted (suc n) a b = ap (λ (s : List Float). set s (to + n) (at d n)) (pasted n (omega arith) (omega arith)) ∙ paste-suc l to d n nan (omega arith) (omega arith)

  -- laid over whole
  placed_is : to + length d ≤ length l → take to l ++ (d ++ drop (to + length d) l) ≡ placed (length d) d to l
  placed_is h =
      sym (pasted (length d) (omega arith) h ∙ ap (λ (s : List Float). (take to l ++ s) ++ drop (to + length d) l) (take_all (length d) d (omega arith))
      ∙ append_assoc (take to l) d (drop (to + length d) l))

  -- a part that was lent and copied into, back in its place
  pub placed_by : (y : List Float) → y ≡ d → to + length d ≤ length l → take to l ++ (y ++ drop (to + length d - to) (drop to l)) ≡ placed (length d) d to l
  placed_by y e h =
      let q : to + length d - to ≡ length d = omega arith in
      rw (q, e, drop-drop (length d) to l) (placed_is h)

-- of an array, whose length is a number
pub placed_array : (x d l : List Float) (to : ℕ) → x ≡ placed (length d) d to l → (n : ℕ) → length d ≡ n → x ≡ placed n d to l
placed_array x d l to p n e = rw e at p
