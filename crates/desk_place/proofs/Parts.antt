-- Parts of a list, read and laid over, and lists that a loop fills. Assumes nothing.
use Prim.Native.Nat.{ℕ, zero, suc, ◌+◌, ◌-◌, ◌≤◌, ◌<◌}
use native.Mathlib.Omega.{arith}
use mathlib.Core.Path.{◌≡◌, refl, sym, ap, ◌∙◌}
use mathlib.Core.Bool.{Bool, true, false}
use mathlib.Core.List.{List, ◌++◌, append_assoc}
use lib.Dec.{eqb}
use borrow.Author.Tests.{eqb-true, eqb-false}
use lib.ListN.{length, get_or, set, take, drop, length-drop, length-set, length-append, take-append-drop}
use lib.Seq.{paste-suc, get_or-set_same, get_or-set_other, take_at, drop_at, take-length, drop-drop, take-take, drop-append-le, length-take-le, get_or-take, get_or-drop, take-add}
use Rattle.number.specs.Walk.{turns, filled}
use Rattle.desk_place.specs.Layout.{part, over}

-- ---- a loop that lays x over d
module _ {A : Type 0} (x d : List A) where
  pub lay_next : (p : List A) (k : ℕ) (z : A) → k < length x → k < length d → p ≡ take k x ++ drop k d → set p k (get_or x k z) ≡ take (suc k) x ++ drop (suc k) d
  lay_next p k z a b h =
      let q : 0 + k ≡ k = omega arith in
      let r : 0 + suc k ≡ suc k = omega arith in
      rw h ((rw q at (paste-suc d 0 x k z (rw q b) a)) ∙ ap (λ (m : ℕ). take (suc k) x ++ drop m d) r)

  pub lay_end : (p : List A) (k : ℕ) → k ≤ length x → length x ≤ k → p ≡ take k x ++ drop k d → p ≡ x ++ drop (length x) d
  lay_end p k a b h =
      let q : k ≡ length x = omega arith in
      h ∙ ap (λ (n : ℕ). take n x ++ drop n d) q ∙ ap (λ (l : List A). l ++ drop (length x) d) (take-length x)

-- ---- a list that a loop fills
module _ {A : Type 0} (f : ℕ → A) where
  pub filled_length : (n : ℕ) (l : List A) → length (filled n f l) ≡ length l
  unfolding turns
  filled_length zero l = refl
  filled_length (suc n) l = length-set (filled n f l) n (f n) ∙ filled_length n l

  pub filled_at : (n i : ℕ) (l : List A) (d : A) → i < n → i < length l → get_or (filled n f l) i d ≡ f i
  unfolding turns
  filled_at zero i l d h b = absurd (omega (arith, h))
  filled_at (suc n) i l d h b = way (eqb i n) refl (λ k. filled_at n i l d k b)
    where
      way : (t : Bool) → eqb i n ≡ t → (i < n → get_or (filled n f l) i d ≡ f i) → get_or (set (filled n f l) n (f n)) i d ≡ f i
      way true e again =
          let q = eqb-true i n e in
          let c = filled_length n l in
          rw (← q) (get_or-set_same (filled i f l) i (f i) d (rw (filled_length i l) b))
      way false e again =
          let q = eqb-false i n e in
          get_or-set_other (filled n f l) n i (f n) d q ∙ again (omega (arith, h, q))

-- ---- parts
module _ {A : Type 0} where
  pub part_length : (a n : ℕ) (l : List A) → a + n ≤ length l → length (part a n l) ≡ n
  part_length a n l h = length-take-le n (drop a l) (rw length-drop (omega arith))

  pub part_at : (a n i : ℕ) (l : List A) (d : A) → i < n → get_or (part a n l) i d ≡ get_or l (a + i) d
  part_at a n i l d h = get_or-take n (drop a l) i d h ∙ get_or-drop a l i d

  -- ---- x laid over l from a on
  module _ (a : ℕ) (x l : List A) (h : a + length x ≤ length l) where
    front : length (take a l) ≡ a
    front = length-take-le a l (omega arith)

    behind : drop a (over a x l) ≡ x ++ drop (length x) (drop a l)
    unfolding over
    behind = drop_at (take a l) _ a front

    pub over_length : length (over a x l) ≡ length l
    unfolding over
    over_length =
        let d = length-drop a l in
        let e = length-drop (length x) (drop a l) in
        let b = length-append x (drop (length x) (drop a l)) in
        length-append (take a l) (x ++ drop (length x) (drop a l)) ∙ omega (arith, front, b, d, e)

    pub over_part : part a (length x) (over a x l) ≡ x
    over_part = rw behind (take_at x _ (length x) refl)

    pub over_rest : drop (a + length x) (over a x l) ≡ drop (a + length x) l
    over_rest = sym (drop-drop (length x) a (over a x l)) ∙ ap (drop (length x)) behind ∙ drop_at x _ (length x) refl ∙ drop-drop (length x) a l

    pub over_front : take a (over a x l) ≡ take a l
    unfolding over
    over_front = take_at (take a l) _ a front

    -- a part before it, and one behind it
    pub over_before : (b n : ℕ) → b + n ≤ a → part b n (over a x l) ≡ part b n l
    over_before b n k =
        let e = over_length in
        before (over a x l) (omega (arith, h, e)) ∙ ap (λ (m : List A). drop b (take (b + n) m)) over_front ∙ sym (before l (omega (arith, h)))
      where
        before : (m : List A) → a ≤ length m → part b n m ≡ drop b (take (b + n) (take a m))
        before m i = sym (ap (drop b) (take-take (b + n) a m k ∙ take-add b n m) ∙ drop_at (take b m) (take n (drop b m)) b (length-take-le b m (omega arith)))

    pub over_behind : (b n : ℕ) → a + length x ≤ b → part b n (over a x l) ≡ part b n l
    over_behind b n k =
        let e : (a + length x) + (b - (a + length x)) ≡ b = omega arith in
        let back : (m : List A) → drop b m ≡ drop (b - (a + length x)) (drop (a + length x) m) = λ m. sym (drop-drop (b - (a + length x)) (a + length x) m ∙ ap (λ (i : ℕ). drop i m) e) in
        ap (take n) (back (over a x l) ∙ ap (drop (b - (a + length x))) over_rest ∙ sym (back l))

  -- ---- a part that was lent, back in its place
  abbrev pub back : ℕ → ℕ → List A → List A → List A
  back a n l y = take a l ++ (y ++ drop n (drop a l))

  pub back_over : (a n : ℕ) (l y : List A) → length y ≡ n → back a n l y ≡ over a y l
  unfolding over
  back_over a n l y e = rw (← e)

  -- with x laid over its front
  pub back_laid : (a n : ℕ) (l x y : List A) → a + n ≤ length l → length x ≤ n → y ≡ x ++ drop (length x) (part a n l) → back a n l y ≡ over a x l
  unfolding over
  back_laid a n l x y h k e =
      let p : length (part a n l) ≡ n = part_length a n l h in
      let d : drop (length x) (part a n l) ++ drop n (drop a l) ≡ drop (length x) (drop a l) =
      sym (drop-append-le (length x) (part a n l) (drop n (drop a l)) (omega (arith, k, p))) ∙ ap (drop (length x)) (take-append-drop n (drop a l)) in
      ap (λ (z : List A). take a l ++ z) (ap (λ (z : List A). z ++ drop n (drop a l)) e ∙ append_assoc x _ _ ∙ ap (λ (z : List A). x ++ z) d)

  pub back_length : (a n : ℕ) (l y : List A) → a + n ≤ length l → length y ≡ n → length (back a n l y) ≡ length l
  back_length a n l y h e = ap length (back_over a n l y e) ∙ over_length a y l (omega (arith, h, e))
