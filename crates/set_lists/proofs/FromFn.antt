-- What `array::from_fn` gives, element by element, of a closure that keeps what it captures. Assumes nothing.
use Prim.Native.Nat.{ℕ, zero, suc, ◌+◌, ◌<◌}
use native.Mathlib.Omega.{arith}
use lib.ListN.{get_or}
use mathlib.Core.Path.{◌≡◌, ◌∙◌}
use mathlib.Core.List.{List}
use denote.Param.Members.{Mut, Called}
use Rattle.std.specs.Array.{IsFromFnResultFrom, IsFromFnResult}

each_is : {F B : Type 0} (g : Mut F (ℕ × Unit {0}) B) (K : F → Type 0) (h : ℕ → B) → ((f q : F) (i : ℕ) (y : B) → K f → Called g f (i, tt) y q → (y ≡ h i) × K q)
    → (f : F) → K f → (ys : List B) (i n : ℕ) → IsFromFnResultFrom g f ys i n → (j : ℕ) → j < n → (d : B) → get_or ys (i + j) d ≡ h (i + j)
each_is g K h step f k ys i zero e j b d = absurd (omega arith)
each_is g K h step f k ys i (suc n) (q, y, at, called, rest) zero b d = let z : i + 0 ≡ i = omega arith in rw z (at.1 d ∙ (step f q i y k called).0)
each_is g K h step f k ys i (suc n) (q, y, at, called, rest) (suc j) b d =
    let z : i + suc j ≡ (i + 1) + j = omega arith in
    rw z (each_is g K h step q (step f q i y k called).1 ys (i + 1) n rest j (omega arith) d)

-- all of them
pub all_are : {F B : Type 0} (g : Mut F (ℕ × Unit {0}) B) (K : F → Type 0) (h : ℕ → B) → ((f q : F) (i : ℕ) (y : B) → K f → Called g f (i, tt) y q → (y ≡ h i) × K q)
    → (f : F) → K f → (ys : List B) (n : ℕ) → IsFromFnResult g f ys n → (j : ℕ) → j < n → (d : B) → get_or ys j d ≡ h j
all_are g K h step f k ys n a j b d = let z : 0 + j ≡ j = omega arith in rw z at (each_is g K h step f k ys 0 n a.each j b d)
