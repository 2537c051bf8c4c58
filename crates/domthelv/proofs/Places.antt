-- Places of a list that are set one by one, all of them: what it is then. Six stand in slopes_calls. Assumes nothing.
use native.Mathlib.Omega.{arith}
use lib.ListN.{length, set}
use mathlib.Core.List.{List, [], ◌∷◌}
use mathlib.Core.Path.{◌≡◌, refl}

module _ {A : Type 0} where
  pub two_places : (a b : A) (l : List A) → length l ≡ 2 → set (set l 0 a) 1 b ≡ a ∷ b ∷ []
  two_places a b (x ∷ y ∷ []) p = refl
  two_places a b (x ∷ y ∷ z ∷ l) p = absurd (omega (arith, p))
  two_places a b (x ∷ []) p = absurd (omega (arith, p))
  two_places a b [] p = absurd (omega (arith, p))

  pub three_places : (a b c : A) (l : List A) → length l ≡ 3 → set (set (set l 0 a) 1 b) 2 c ≡ a ∷ b ∷ c ∷ []
  three_places a b c (x ∷ y ∷ z ∷ []) p = refl
  three_places a b c (x ∷ y ∷ z ∷ u ∷ l) p = absurd (omega (arith, p))
  three_places a b c (x ∷ y ∷ []) p = absurd (omega (arith, p))
  three_places a b c (x ∷ []) p = absurd (omega (arith, p))
  three_places a b c [] p = absurd (omega (arith, p))

  pub four_places : (a b c d : A) (l : List A) → length l ≡ 4 → set (set (set (set l 0 a) 1 b) 2 c) 3 d ≡ a ∷ b ∷ c ∷ d ∷ []
  four_places a b c d (x ∷ y ∷ z ∷ u ∷ []) p = refl
  four_places a b c d (x ∷ y ∷ z ∷ u ∷ v ∷ l) p = absurd (omega (arith, p))
  four_places a b c d (x ∷ y ∷ z ∷ []) p = absurd (omega (arith, p))
  four_places a b c d (x ∷ y ∷ []) p = absurd (omega (arith, p))
  four_places a b c d (x ∷ []) p = absurd (omega (arith, p))
  four_places a b c d [] p = absurd (omega (arith, p))
