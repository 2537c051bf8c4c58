-- A component list in the places of a set.
use Rattle.std.specs.Prelude.{ℕ, List, replicate}
use Rattle.number.specs.Arith.{Arith, zero64}
use Rattle.sizes.specs.Sizes.{side}
use Rattle.number.specs.Walk.{filled}

-- f 0 to f (n - 1), in any run; +0 where unused
unfoldable pub in_places : (A : Arith) → ℕ → (ℕ → A.Num) → List A.Num
in_places A n f = filled n f (replicate side (A.lit zero64))
