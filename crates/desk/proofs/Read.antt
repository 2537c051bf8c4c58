-- What is read of a list after another part of it was laid over or an element set. Assumes nothing.
use Prim.Native.Nat.{ℕ, ◌+◌, ◌-◌, ◌≤◌, ◌<◌}
use native.Mathlib.Omega.{arith}
use mathlib.Core.Path.{◌≡◌, sym, ap, ◌∙◌, subst}
use mathlib.Core.List.{List}
use lib.ListN.{length, get_or, set, take, drop}
use lib.Seq.{get_or-take, get_or-drop, drop-set-add, take-set-le, drop-set-lt}
use Rattle.desk_place.specs.Layout.{part, over}
use Rattle.desk_place.proofs.Parts.{over_part, over_rest, over_front}

module _ {A : Type 0} where
  pub laid_part : (a n : ℕ) (x l : List A) → length x ≡ n → a + n ≤ length l → part a n (over a x l) ≡ x
  laid_part a n x l e h = subst (λ (k : ℕ). part a k (over a x l) ≡ x) e (over_part a x l (omega (arith, e, h)))

  -- an element before what is laid over, and one behind it
  pub over_at_before : (a : ℕ) (x l : List A) (i : ℕ) (d : A) → a + length x ≤ length l → i < a → get_or (over a x l) i d ≡ get_or l i d
  over_at_before a x l i d h k = sym (get_or-take a (over a x l) i d k) ∙ ap (λ (m : List A). get_or m i d) (over_front a x l h) ∙ get_or-take a l i d k

  pub over_at_behind : (a : ℕ) (x l : List A) (i : ℕ) (d : A) → a + length x ≤ length l → a + length x ≤ i → get_or (over a x l) i d ≡ get_or l i d
  over_at_behind a x l i d h k =
      let e : (a + length x) + (i - (a + length x)) ≡ i = omega arith in
      let to : (m : List A) → get_or m i d ≡ get_or (drop (a + length x) m) (i - (a + length x)) d = λ m. sym (get_or-drop (a + length x) m (i - (a + length x)) d ∙ ap (λ (n : ℕ). get_or m n d) e) in
      to (over a x l) ∙ ap (λ (m : List A). get_or m (i - (a + length x)) d) (over_rest a x l h) ∙ sym (to l)

  -- a part before an element that is set, and one behind it
  pub set_behind : (a n i : ℕ) (v : A) (l : List A) → a + n ≤ i → part a n (set l i v) ≡ part a n l
  set_behind a n i v l h =
      let e : a + (i - a) ≡ i = omega arith in
      ap (λ (k : ℕ). part a n (set l k v)) (sym e) ∙ ap (take n) (drop-set-add a l (i - a) v) ∙ take-set-le n (drop a l) (i - a) v (omega (arith, h))

  pub set_before : (a n i : ℕ) (v : A) (l : List A) → i < a → part a n (set l i v) ≡ part a n l
  set_before a n i v l h = ap (take n) (drop-set-lt a l i v h)
