-- Places of a list that are set one by one, all of them: what it is then. Assumes nothing.
use native.Mathlib.Omega.{arith}
use lib.Ieee.{Float}
use lib.ListN.{length, set}
use mathlib.Core.List.{List, [], ◌∷◌}
use mathlib.Core.Path.{◌≡◌, refl}

pub six_places : (a b c d e f : Float) (l : List Float) → length l ≡ 6 → set (set (set (set (set (set l 0 a) 1 b) 2 c) 3 d) 4 e) 5 f ≡ a ∷ b ∷ c ∷ d ∷ e ∷ f ∷ []
six_places a b c d e f (s ∷ t ∷ u ∷ v ∷ w ∷ x ∷ []) p = refl
six_places a b c d e f (s ∷ t ∷ u ∷ v ∷ w ∷ x ∷ y ∷ z) p = absurd (omega (arith, p))
six_places a b c d e f (s ∷ t ∷ u ∷ v ∷ w ∷ []) p = absurd (omega (arith, p))
six_places a b c d e f (s ∷ t ∷ u ∷ v ∷ []) p = absurd (omega (arith, p))
six_places a b c d e f (s ∷ t ∷ u ∷ []) p = absurd (omega (arith, p))
six_places a b c d e f (s ∷ t ∷ []) p = absurd (omega (arith, p))
six_places a b c d e f (s ∷ []) p = absurd (omega (arith, p))
six_places a b c d e f [] p = absurd (omega (arith, p))
