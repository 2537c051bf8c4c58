-- A polynomial with natural coefficients at a fraction, over one denominator.
use Prim.Native.Nat.{ℕ, ◌+◌, ◌*◌, ◌^◌}
use mathlib.Core.List.{List, [], ◌∷◌}
use lib.ListN.{length}

-- the sum of aᵢ n ^ i d ^ (l - i), l + 1 numbers a: d ^ l times the polynomial at n / d
unfoldable pub hom : List ℕ → ℕ → ℕ → ℕ
hom [] n d = 0
hom (a ∷ ps) n d = a * d ^ length ps + n * hom ps n d
