-- The desk's lists keep their places apart. Assumes nothing.
use Prim.Native.Nat.{ℕ, ◌+◌, ◌*◌, ◌≤◌, ◌<◌}
use native.Mathlib.Omega.{arith}
use mathlib.Core.Path.{◌≡◌, refl, ◌∙◌}
use mathlib.Core.Bool.{Bool, true, false}
use mathlib.Core.Logic.{◌⊎◌, inl, inr}
use mathlib.Core.List.{List}
use lib.Dec.{eqb, ltb}
use lib.Ieee.{Float}
use lib.ListN.{length, get_or, set, length-set}
use lib.Seq.{get_or-set_same}
use borrow.Author.Tests.{ltb-true, ltb-false, eqb-true}
use Rattle.std.proofs.lemmas.Bool.{and_parts}
use Rattle.round_robin.specs.Desk.{places}
use Rattle.round_robin.proofs.Bound.{Apart}
use Rattle.desk_place.specs.Layout.{part, over, Lists, place_floats, place_bytes}
use Rattle.desk_place.proofs.Parts.{part_length, over_length, over_before, over_behind}
use Rattle.desk.specs.Desk.{last_at, right_desk, place_of, placed, shelf}
use Rattle.desk.proofs.Read.{laid_part, over_at_behind, set_behind}

pub record Right (l : Lists) : Type 0 where
  pub floats : length l.floats ≡ place_floats * places
  pub bytes : length l.bytes ≡ last_at + 1

pub record Whole (p : Lists) : Type 0 where
  pub floats : length p.floats ≡ place_floats
  pub bytes : length p.bytes ≡ place_bytes

pub desk_right : (l : Lists) → right_desk (length l.floats) (length l.bytes) ≡ true → Right l
unfolding right_desk
desk_right l h =
    let a = eqb (length l.floats) (place_floats * places) in
    let b = eqb (length l.bytes) (last_at + 1) in
    record { floats = eqb-true (length l.floats) (place_floats * places) (and_parts a b h).0; bytes = eqb-true (length l.bytes) (last_at + 1) (and_parts a b h).1 }

pub lists_are : (a b : List Float) (c d : List ℕ) → a ≡ b → c ≡ d → ◌≡◌ {A = Lists} (record { floats = a; bytes = c }) (record { floats = b; bytes = d })
lists_are a b c d p q = rw (p, q)

-- a part of n, one of places, laid over by another place's
other : {A : Type 0} (n k j : ℕ) (x l : List A) → length x ≡ n → n * k + n ≤ length l → (n * j + n ≤ n * k) ⊎ (n * k + n ≤ n * j) → part (n * j) n (over (n * k) x l) ≡ part (n * j) n l
other n k j x l e h (inl a) = over_before (n * k) x l (omega (arith, e, h)) (n * j) n a
other n k j x l e h (inr a) = over_behind (n * k) x l (omega (arith, e, h)) (n * j) n (omega (arith, e, a))

sides_f : (j k : ℕ) → (j ≡ k → ⊥) → (place_floats * j + place_floats ≤ place_floats * k) ⊎ (place_floats * k + place_floats ≤ place_floats * j)
sides_f j k h = way (ltb j k) refl
  where
    way : (t : Bool) → ltb j k ≡ t → (place_floats * j + place_floats ≤ place_floats * k) ⊎ (place_floats * k + place_floats ≤ place_floats * j)
    way true e = let x = ltb-true j k e in inl (omega (arith, x))
    way false e = let x = ltb-false j k e in inr (omega (arith, x, h))

sides_b : (j k : ℕ) → (j ≡ k → ⊥) → (place_bytes * j + place_bytes ≤ place_bytes * k) ⊎ (place_bytes * k + place_bytes ≤ place_bytes * j)
sides_b j k h = way (ltb j k) refl
  where
    way : (t : Bool) → ltb j k ≡ t → (place_bytes * j + place_bytes ≤ place_bytes * k) ⊎ (place_bytes * k + place_bytes ≤ place_bytes * j)
    way true e = let x = ltb-true j k e in inl (omega (arith, x))
    way false e = let x = ltb-false j k e in inr (omega (arith, x, h))

pub whole_at : (l : Lists) (k : ℕ) → Right l → k < places → Whole (place_of l k)
whole_at l k r h =
    let a = r.floats in
    let b = r.bytes in
    record { floats = part_length (place_floats * k) place_floats l.floats (omega (arith, a, h)); bytes = part_length (place_bytes * k) place_bytes l.bytes (omega (arith, b, h)) }

module _ (l : Lists) (k : ℕ) (p : Lists) (r : Right l) (h : k < places) (w : Whole p) where
  fits_f : place_floats * k + length p.floats ≤ length l.floats
  fits_f = let a = r.floats in let b = w.floats in omega (arith, a, b, h)

  fits_b : place_bytes * k + length p.bytes ≤ length l.bytes
  fits_b = let a = r.bytes in let b = w.bytes in omega (arith, a, b, h)

  pub placed_right : Right (placed l k p)
  placed_right = record { floats = over_length (place_floats * k) p.floats l.floats fits_f ∙ r.floats; bytes = over_length (place_bytes * k) p.bytes l.bytes fits_b ∙ r.bytes }

  pub placed_same : place_of (placed l k p) k ≡ p
  placed_same =
      let a = r.floats in
      let b = r.bytes in
      lists_are _ _ _ _ (laid_part (place_floats * k) place_floats p.floats l.floats w.floats (omega (arith, a, h))) (laid_part (place_bytes * k) place_bytes p.bytes l.bytes w.bytes (omega (arith, b, h)))

  pub placed_other : (j : ℕ) → j < places → (j ≡ k → ⊥) → place_of (placed l k p) j ≡ place_of l j
  placed_other j i x =
      let a = r.floats in
      let b = r.bytes in
      lists_are _ _ _ _ (other place_floats k j p.floats l.floats w.floats (omega (arith, a, h)) (sides_f j k x)) (other place_bytes k j p.bytes l.bytes w.bytes (omega (arith, b, h)) (sides_b j k x))

  pub placed_last : get_or (placed l k p).bytes last_at 0 ≡ get_or l.bytes last_at 0
  placed_last = let b = w.bytes in over_at_behind (place_bytes * k) p.bytes l.bytes last_at 0 fits_b (omega (arith, b, h))

pub served_right : (l : Lists) (k : ℕ) → Right l → Right (record { floats = l.floats; bytes = set l.bytes last_at k })
served_right l k r = record { floats = r.floats; bytes = length-set l.bytes last_at k ∙ r.bytes }

pub served_place : (l : Lists) (k j : ℕ) → Right l → j < places → place_of (record { floats = l.floats; bytes = set l.bytes last_at k }) j ≡ place_of l j
served_place l k j r h = lists_are _ _ _ _ refl (set_behind (place_bytes * j) place_bytes last_at k l.bytes (omega (arith, h)))

pub served_last : (l : Lists) (k : ℕ) → Right l → get_or (set l.bytes last_at k) last_at 0 ≡ k
served_last l k r = let b = r.bytes in get_or-set_same l.bytes last_at k 0 (omega (arith, b))

abbrev pub apart : Apart shelf
apart =
    record {
      Right = Right;
      Whole = Whole;
      whole = whole_at;
      put_right = placed_right;
      put_same = placed_same;
      put_other = λ l k j p r h i w x. placed_other l k p r h w j i x;
      put_last = placed_last;
      served_right = served_right;
      served_place = served_place;
      served_last = served_last;
    }
