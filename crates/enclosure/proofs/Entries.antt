-- A constant from what the code has of it, and a rule's table. Assumes nothing.
use Prim.Native.Nat.{ℕ, zero, suc}
use mathlib.Core.Path.{◌≡◌, refl}
use mathlib.Core.Bool.{Bool, true, false, ◌&&◌}
use mathlib.Core.List.{List, [], ◌∷◌}
use lib.Dec.{T}
use lib.ListN.{get_or}
use lib.Ieee as Ieee
use lib.Ieee.Fits.{and_l, and_r}
use Rattle.number.specs.Arith.{Constant, node, zero64, decimal}
use Rattle.number.specs.Functions.{Decimal, dec}
use Rattle.interval.specs.Interval as Interval
use Rattle.enclosure.specs.declared.Enclosed.{Enclosed}
use Rattle.enclosure.specs.Constants as Constants
use Rattle.enclosure.specs.Enclosure.{constant_e}
use Rattle.enclosure.specs.Enclosed.{IsEnclosed, enclosed, table_of}

pub made : (c : Constant) (e : Enclosed) → IsEnclosed c e → record { value = e.value; ends = record { lower = e.below; upper = e.above; sound = true } } ≡ constant_e c
unfolding enclosed constant_e
made c e r = rw (r.is, r.sound)

-- whether every decimal of a table has finite ends
abbrev pub sounds : List Decimal → Bool
sounds [] = true
sounds (e ∷ l) = (constant_e (node e.minus e.digits e.places)).ends.sound && sounds l

is_true : (b : Bool) → T b → b ≡ true
is_true true t = refl
is_true false t = absurd t

-- beyond the table stands 0, which is sound too
pub entry_is : (l : List Decimal) → T (sounds l) → (k : ℕ)
    → let e = get_or l k (dec false 0 0) in IsEnclosed (node e.minus e.digits e.places) (get_or (table_of l) k (record { value = zero64; below = zero64; above = zero64 }))
unfolding enclosed constant_e Constants.below Constants.above Interval.point decimal Ieee.fits Ieee.of_bits
entry_is [] t k = record { is = refl; sound = refl }
entry_is (e ∷ l) t zero = record { is = refl; sound = is_true (constant_e (node e.minus e.digits e.places)).ends.sound (and_l (constant_e (node e.minus e.digits e.places)).ends.sound (sounds l) t) }
entry_is (e ∷ l) t (suc k) = entry_is l (and_r (constant_e (node e.minus e.digits e.places)).ends.sound (sounds l) t) k
