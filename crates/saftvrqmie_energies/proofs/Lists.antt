-- Lists that a relation holds between place by place: written, filled and read places keep it. Assumes nothing.
use Prim.Native.Nat.{ℕ, zero, suc}
use lib.ListN.{get_or, set, replicate}
use mathlib.Core.List.{List, [], ◌∷◌}

pub data All {S T : Type 0} (R : S → T → Type 0) : List S → List T → Type 0 where
  none : All R [] []
  more : {x : S} {y : T} {xs : List S} {ys : List T} → R x y → All R xs ys → All R (x ∷ xs) (y ∷ ys)

module _ {S T : Type 0} (R : S → T → Type 0) where
  pub all_replicate : (m : ℕ) (x : S) (y : T) → R x y → All R (replicate m x) (replicate m y)
  all_replicate zero x y p = none
  all_replicate (suc m) x y p = more p (all_replicate m x y p)

  pub all_set : (k : ℕ) (xs : List S) (ys : List T) (x : S) (y : T) → All R xs ys → R x y → All R (set xs k x) (set ys k y)
  all_set k [] (b ∷ ys) x y x7 q = elim x7 [ ]
  all_set zero (a ∷ xs) [] x y x9 q = elim x9 [ ]
  all_set (suc k) (a ∷ xs) [] x y x10 q = elim x10 [ ]
  all_set k [] [] x y none q = none
  all_set zero (a ∷ xs) (b ∷ ys) x y (more p h) q = more q h
  all_set (suc k) (a ∷ xs) (b ∷ ys) x y (more p h) q = more p (all_set k xs ys x y h q)

  pub all_get : (k : ℕ) (xs : List S) (ys : List T) (x : S) (y : T) → All R xs ys → R x y → R (get_or xs k x) (get_or ys k y)
  all_get k [] (b ∷ ys) x y x7 q = elim x7 [ ]
  all_get zero (a ∷ xs) [] x y x9 q = elim x9 [ ]
  all_get (suc k) (a ∷ xs) [] x y x10 q = elim x10 [ ]
  all_get k [] [] x y none q = q
  all_get zero (a ∷ xs) (b ∷ ys) x y (more p h) q = p
  all_get (suc k) (a ∷ xs) (b ∷ ys) x y (more p h) q = all_get k xs ys x y h q
