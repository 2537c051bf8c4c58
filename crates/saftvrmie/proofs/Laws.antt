-- The operation, test by test, over plain values. Assumes nothing.
use Prim.Native.Nat.{ℕ, ◌≤◌}
use Rattle.std.proofs.lemmas.Bool.{and_parts}
use Rattle.std.specs.Prelude.{Err, Ok, Result}
use Rattle.number.specs.declared.refusal.Refusal.TheVariants.{Length, Limit, NotFinite}
use Rattle.number.specs.declared.refusal.Refusal.{Refusal}
use lib.Dec.{eqb}
use lib.Ieee.{Float}
use lib.ListN.{length, set}
use mathlib.Core.List.{List}
use mathlib.Core.Path.{◌≡◌}
use mathlib.Core.Bool.{true, false}
use borrow.Author.Tests.{eqb-true}
use Rattle.number.specs.Ans.{held, refused, ◌>>=◌, demand}
use Rattle.number.specs.Answer.{answer, code}
use Rattle.number.specs.Lists.{at}
use Rattle.sizes.specs.Sizes.{side}
use Rattle.number.specs.Walk.{filled}
use Rattle.number.proofs.Walk.{via}
use Rattle.limits.specs.Limits.{count_within, temperature_within}
use Rattle.mie_parameters.proofs.Laws.{count_high}
use Rattle.mie_parameters.specs.Answer.{outcome, verdict, stored}
use Rattle.saftvrmie.specs.Diameters.{diameter_at, diameter_turn, worked, diameters_finite, right_length, diameters}

-- a turn of the walk
module _ (sheets : List Float) (t : Float) (i : ℕ) (x : List Float) (a : Result Float Refusal) (p : answer a ≡ diameter_at sheets t i) where
  pub turn_held : (v : Float) → a ≡ Ok v → diameter_turn sheets t i x ≡ held (set x i v)
  unfolding diameter_turn ◌>>=◌
  turn_held v e = rw (via answer p e)

  pub turn_outside : (m : Refusal) → a ≡ Err m → diameter_turn sheets t i x ≡ refused (code m)
  unfolding diameter_turn ◌>>=◌
  turn_outside m e = rw (via answer p e)

-- what the test of the count and of the length says
pub count_small : (n len : ℕ) → right_length n len ≡ true → n ≤ side
unfolding right_length
count_small n len p = count_high n (and_parts (count_within n) (eqb len n) p).0

pub length_is : (n len : ℕ) → right_length n len ≡ true → len ≡ n
unfolding right_length
length_is n len p = eqb-true len n (and_parts (count_within n) (eqb len n) p).1

-- the returns of `diameters_of`
module _ (n : ℕ) (sheets : List Float) (t : Float) (l : List Float) where
  abbrev Told : Result (Unit {0}) Refusal → List Float → Type 0
  Told r x = (outcome r true ≡ verdict (diameters n sheets t l)) × (x ≡ stored l (diameters n sheets t l))

  pub refuses_1 : right_length n (length l) ≡ false → Told (Err Length) l
  unfolding diameters demand ◌>>=◌ verdict stored
  refuses_1 p = (rw p, rw p)

  module _ (p : right_length n (length l) ≡ true) where
    pub refuses_2 : temperature_within t ≡ false → Told (Err Limit) l
    unfolding diameters demand ◌>>=◌ verdict stored
    refuses_2 q = (rw (p, q), rw (p, q))

    module _ (q : temperature_within t ≡ true) where
      pub refuses_6 : (k : Refusal) (r : Result (Unit {0}) Refusal) → r ≡ Err k → worked n sheets t ≡ refused (code k) → Told r l
      unfolding diameters demand ◌>>=◌ verdict stored
      refuses_6 k r e w = (rw (e, p, q, w), rw (p, q, w))

      module _ (d : List Float) (w : worked n sheets t ≡ held d) where
        pub refuses_7 : diameters_finite n d ≡ false → Told (Err NotFinite) l
        unfolding diameters demand ◌>>=◌ verdict stored
        refuses_7 f = (rw (p, q, w, f), rw (p, q, w, f))

        pub holds : (x : List Float) → diameters_finite n d ≡ true → x ≡ filled n (at d) l → Told (Ok tt) x
        unfolding diameters demand ◌>>=◌ verdict stored
        holds x f e = (rw (p, q, w, f), rw (p, q, w, f) e)
