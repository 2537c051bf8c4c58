-- The search round the desk as one through the places in their turn: from `from` to the last, then from the first up to `from`. Assumes nothing.
use Prim.Native.Nat.{ℕ, zero, suc, ◌+◌, ◌-◌, ◌≤◌, ◌<◌}
use native.Mathlib.Omega.{arith}
use mathlib.Core.Path.{◌≡◌, refl, sym, ap, ◌∙◌}
use mathlib.Core.Bool.{Bool, true, false}
use mathlib.Core.List.{List, ◌++◌}
use lib.ListN.{length, get_or, length-append}
use lib.Dec.{ltb}
use borrow.Author.Tests.{ltb-true, ltb-false}
use Rattle.std.specs.Prelude.{Option, None, Some, MatchOption}
use Rattle.std.specs.List.{AllWithin, HoldsAt, range_with_len}
use Rattle.std.proofs.lemmas.List.{get_or_append_left, get_or-append_right}
use Rattle.std.proofs.lemmas.List.FromFn.{length-range_with_len, get_or-range_with_len}
use Rattle.round_robin.specs.Desk.{places, above, seek}
use Rattle.round_robin.proofs.Seek.{above_on, above_round, above_small, steps}
use Rattle.desk.specs.Desk.{found}
use Rattle.desk.proofs.Ways.{found_at, found_none}

abbrev pub round : ℕ → List ℕ
round p = range_with_len p (places - p) ++ range_with_len 0 p

-- up from k without a round, and a round
up : (n k : ℕ) → n + k < 16 → steps n k ≡ n + k
unfolding steps
up zero k h = omega arith
up (suc n) k h = let e = (above_on k (omega arith)).0 in rw (← e) (up n (k + 1) (omega arith) ∙ omega arith)

over_the_last : (n k : ℕ) → k < 16 → 16 ≤ n + k → n < 16 → steps n k ≡ n + k - 16
unfolding steps
over_the_last zero k b h g = absurd (omega (arith, b, h))
over_the_last (suc n) k b h g = way (ltb k 15) refl (λ l. over_the_last n (k + 1) (omega (arith, l)) (omega arith) (omega arith))
  where
    way : (t : Bool) → ltb k 15 ≡ t → (k < 15 → steps n (k + 1) ≡ n + (k + 1) - 16) → steps (suc n) k ≡ suc n + k - 16
    way true e again = let q = ltb-true k 15 e in rw (← (above_on k q).0) (again q ∙ omega arith)
    way false e again = let q = ltb-false k 15 e in rw (← (above_round k q).0) (up n 0 (omega arith) ∙ omega (arith, q, b))

round_length : (p : ℕ) → p < 16 → length (round p) ≡ 16
round_length p h = let a = length-range_with_len p (16 - p) in let b = length-range_with_len 0 p in length-append (range_with_len p (16 - p)) (range_with_len 0 p) ∙ omega (arith, a, b)

round_at : (p d x : ℕ) → p < 16 → d < 16 → get_or (round p) d x ≡ steps d p
round_at p d x h g = way (ltb d (16 - p)) refl
  where
    a : length (range_with_len p (16 - p)) ≡ 16 - p
    a = length-range_with_len p (16 - p)

    way : (t : Bool) → ltb d (16 - p) ≡ t → get_or (round p) d x ≡ steps d p
    way true e =
        let q = ltb-true d (16 - p) e in
        get_or_append_left (range_with_len p (16 - p)) (range_with_len 0 p) x d (omega (arith, a, q)) ∙ get_or-range_with_len p (16 - p) d x q ∙ omega arith ∙ sym (up d p (omega (arith, q)))
    way false e =
        let q = ltb-false d (16 - p) e in
        get_or-append_right (range_with_len p (16 - p)) (range_with_len 0 p) (16 - p) d x a q ∙ get_or-range_with_len 0 p (d - (16 - p)) x (omega (arith, q)) ∙ omega (arith, q) ∙ sym (over_the_last d p h (omega (arith, q)) g)

steps_small : (n k : ℕ) → k < 16 → steps n k < 16
unfolding steps
steps_small zero k h = h
steps_small (suc n) k h = steps_small n (above k) (above_small k)

module _ (test : ℕ → Bool) where
  seek_at : (n k d : ℕ) → d < n → ((e : ℕ) → e < d → test (steps e k) ≡ false) → test (steps d k) ≡ true → seek n test k ≡ steps d k
  unfolding seek steps
  seek_at zero k d h l t = absurd (omega (arith, h))
  seek_at (suc n) k zero h l t = rw t
  seek_at (suc n) k (suc d) h l t = rw (l 0 (omega arith)) (seek_at n (above k) d (omega arith) (λ e g. l (suc e) (omega (arith, g))) t)

  seek_none : (n k : ℕ) → ((e : ℕ) → e < n → test (steps e k) ≡ false) → seek n test k ≡ places
  unfolding seek steps
  seek_none zero k l = refl
  seek_none (suc n) k l = rw (l 0 (omega arith)) (seek_none n (above k) (λ e g. l (suc e) (omega (arith, g))))

  -- what is known of a place alone
  abbrev pub Suits : ℕ → Type 0
  Suits k = k < places → test k ≡ true

  abbrev pub Fails : ℕ → Type 0
  Fails k = k < places → test k ≡ false

  passed_over : (p n : ℕ) → p < 16 → n ≤ 16 → AllWithin Fails (round p) 0 n → (e : ℕ) → e < n → test (steps e p) ≡ false
  passed_over p n h g a e l = rw (← round_at p e 0 h (omega (arith, l))) (a e 0 (omega arith) l (rw (round_at p e 0 h (omega (arith, l))) (steps_small e p h)))

  pub found_round : (p : ℕ) (r : Option ℕ) → p < 16 → MatchOption r (AllWithin Fails (round p) 0 (length (round p))) (λ x. Suits x × (i : ℕ) × (i < length (round p)) × HoldsAt (λ y. y ≡ x) (round p) i × AllWithin Fails (round p) 0 i) → r ≡ found (seek places test p)
  found_round p None h m = found_none _ (sym (seek_none 16 p (passed_over p 16 h (omega arith) (rw (round_length p h) at m))))
  found_round p (Some x) h m =
      let i = m.1 in
      let b : i < 16 = rw (round_length p h) at m.2 in
      let e : steps i p ≡ x = sym (round_at p i 0 h b) ∙ m.3 0 in
      let s : x < 16 = rw (← e) (steps_small i p h) in
      found_at x _ s (sym (seek_at 16 p i b (passed_over p i h (omega (arith, b)) m.4) (rw e (m.0 s)) ∙ e))

pub in_round : (p k x : ℕ) → p < places → k < length (round p) → x ≡ get_or (round p) k x → x < places
in_round p k x h l e = let b : k < 16 = rw (round_length p h) at l in rw (e ∙ round_at p k x h b) (steps_small k p h)
