-- An answer that is finite and keeps a distance from an exact value. Assumes nothing.
use mathlib.Core.Bool.{Bool}
use Prim.Native.Nat.{ℕ}
use lib.Dec.{T}
use lib.Ieee.{Float, nan, inf, fin}
use lib.Ieee.Exact.{HasValue}
use lib.Ieee.Scale.{finite}
use Rattle.number.specs.Frac.{Frac, val_f}

abbrev pub Close : (Frac → Frac → Type 0) → Float → Frac → Type 0
Close Distance r v = T (finite r) × Distance (val_f r) v

-- what has a sign and a size is finite
pub value_finite : (x : Float) (s : Bool) (a c : ℕ) → HasValue x s a c → T (finite x)
value_finite nan s a c h = absurd h
value_finite (inf t) s a c h = absurd h
value_finite (fin t m e) s a c h = tt
