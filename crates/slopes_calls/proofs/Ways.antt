-- The call, test by test: its answer, and what it leaves in the lent list. Assumes nothing.
use Prim.Native.Nat.{ℕ}
use lib.Dec.{eqb}
use lib.Ieee.{Float}
use lib.ListN.{length}
use mathlib.Core.Path.{◌≡◌, refl}
use mathlib.Core.List.{List}
use mathlib.Core.Bool.{Bool, true, false}
use Rattle.number.specs.Ans.{Ans, held, refused, ◌>>=◌, demand}
use Rattle.dual.specs.Dual.{DualOf}
use Rattle.mie_parameters.specs.Answer.{verdict, stored}
use Rattle.slopes_lists.specs.Lists.{SlopedState, sloped_lengths}
use Rattle.set_lists.specs.Sets.{QuantumLists, quantum_set}
use Rattle.saftvrqmie_parameters.specs.declared.SaftVRQMiePars.{SaftVRQMiePars}
use Rattle.saftvrqmie_energies.specs.Energies.{EnergiesIn}
use Rattle.saftvrqmie_slopes.specs.Operation.{energies_slopes}
use Rattle.slopes_calls.specs.Calls.{slopes_written, vrq_energies_slopes}

-- what a call does: whether it is accepted, and the list that it wrote
abbrev pub Does : Ans Bool → List Float → List Float → Ans (List Float) → Type 0
Does r before after a = (r ≡ verdict a) × (after ≡ stored before a)

does_refused : (l : List Float) (a : Ans (List Float)) (n : ℕ) → a ≡ refused n → Does (refused n) l l a
unfolding verdict stored
does_refused l a n p = rw p (refl, refl)

does_held : (l x y : List Float) (a : Ans (List Float)) → a ≡ held x → y ≡ x → Does (held true) l y a
unfolding verdict stored
does_held l x y a p e = rw p (refl, e)

module _ (s : QuantumLists) (q : SlopedState) (wanted : Bool) (l : List Float) where
  abbrev call : Ans (List Float)
  call = vrq_energies_slopes s q wanted l

  pub call_1 : eqb (length l) 6 ≡ false → Does (refused 1) l l call
  unfolding vrq_energies_slopes demand ◌>>=◌
  call_1 p = does_refused l call 1 (rw p)

  module _ (p : eqb (length l) 6 ≡ true) where
    pub call_set : (k : ℕ) → quantum_set (sloped_lengths s.count q) s ≡ refused k → Does (refused k) l l call
    unfolding vrq_energies_slopes demand ◌>>=◌
    call_set k h = does_refused l call k (rw (p, h))

    module _ (y : SaftVRQMiePars) (h : quantum_set (sloped_lengths s.count q) s ≡ held y) where
      pub call_refused : (k : ℕ) → energies_slopes y q wanted ≡ refused k → Does (refused k) l l call
      unfolding vrq_energies_slopes demand ◌>>=◌
      call_refused k r = does_refused l call k (rw (p, h, r))

      pub call_held : (e : EnergiesIn (DualOf Float)) (z : List Float) → energies_slopes y q wanted ≡ held e → z ≡ slopes_written e l → Does (held true) l z call
      unfolding vrq_energies_slopes demand ◌>>=◌
      call_held e z r g = does_held l (slopes_written e l) z call (rw (p, h, r)) g
