-- A sign as a Bool and as the number that the definitions speak of. Assumes nothing.
use mathlib.Core.Path.{◌≡◌, refl}
use mathlib.Core.Bool.{Bool, true, false, beq}
use Prim.Native.Nat.{ℕ, ◌/◌, ◌^◌, ◌<◌}
use native.Mathlib.Omega.{arith}
use lib.Dec.{eqb, leb}
use Rattle.std.specs.Int.{from_bool}

pub same_sign : (s g : Bool) → beq s g ≡ true → eqb (from_bool s) (from_bool g) ≡ true
same_sign false false h = refl
same_sign false true h = h
same_sign true false h = h
same_sign true true h = refl

pub other_sign : (s g : Bool) → beq s g ≡ false → eqb (from_bool s) (from_bool g) ≡ false
other_sign false false h = h
other_sign false true h = refl
other_sign true false h = refl
other_sign true true h = h

pub minus : (s : Bool) → s ≡ true → eqb (from_bool s) 1 ≡ true
minus false h = h
minus true h = refl

pub plus : (s : Bool) → s ≡ false → eqb (from_bool s) 1 ≡ false
plus false h = refl
plus true h = h

-- the highest of 64 bits
pub top_bit : (b : ℕ) → b < 2 ^ 64 → from_bool (leb (2 ^ 63) b) ≡ b / 2 ^ 63
top_bit b h = grind arith
