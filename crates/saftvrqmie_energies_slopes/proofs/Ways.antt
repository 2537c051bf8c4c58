-- The ways of the energies with slopes, over plain values. Assumes nothing.
use Prim.Native.Nat.{ℕ, ◌*◌, ◌<◌}
use lib.Ieee.{Float}
use lib.ListN.{length}
use mathlib.Core.List.{List}
use mathlib.Core.Bool.{Bool, true, false}
use mathlib.Core.Path.{◌≡◌, ap}
use Rattle.number.specs.Ans.{Ans, held, refused, ◌>>=◌, demand}
use Rattle.number.proofs.Walk.{held_inj}
use Rattle.sizes.specs.Sizes.{sheet}
use Rattle.elementary.specs.Port.{port}
use Rattle.dual.specs.Dual.{DualOf}
use Rattle.slopes.specs.Mixed.{Mixed, sloped, as_dual}
use Rattle.slopes_lists.specs.Lists.{SlopedList, SlopedState}
use Rattle.saftvrqmie_parameters.specs.declared.SaftVRQMiePars.{SaftVRQMiePars}
use Rattle.saftvrqmie_energies.specs.Energies.{EnergiesIn, each_in, each_taken}
use Rattle.saftvrqmie_energies_slopes.specs.Energies.{as_duals, slopes_finite, contributions_slope, energies_slope, energies_slope_at}

-- whichever list of a table's length is read: what is asked of a table hangs on no list
pub entry_within : (l : List Float) → length l ≡ 4 * sheet → (e : ℕ) → e < 4 * sheet → e < length l
entry_within l h e p = rw h p

-- a number taken as a D
abbrev taken : Mixed → Mixed
taken m = sloped (as_dual m)

-- what the run with slopes gives of the formula's contributions, each taken as a D
abbrev pub given : Ans (EnergiesIn Mixed) → Ans (EnergiesIn (DualOf Float))
given a = a >>= λ e. demand 7 (slopes_finite (as_duals e)) >>= λ _. held (as_duals e)

given_refused : (a : Ans (EnergiesIn Mixed)) (k : ℕ) → each_taken taken a ≡ refused k → refused k ≡ given a
unfolding ◌>>=◌
given_refused (held e) k h = let z : ◌≡◌ {A = Bool} true false = cc in absurd (mathlib.Core.Bool.true≢false z)
given_refused (refused n) k h = cc

given_held : (a : Ans (EnergiesIn Mixed)) (found : EnergiesIn (DualOf Float)) → each_taken taken a ≡ held (each_in sloped found) → given a ≡ (demand 7 (slopes_finite found) >>= λ _. held found)
unfolding ◌>>=◌
given_held (held e) found h =
    let is : as_duals e ≡ found = ap (each_in as_dual) (held_inj _ _ h) in
    rw is
given_held (refused n) found h = let z : ◌≡◌ {A = Bool} true false = cc in absurd (mathlib.Core.Bool.true≢false z)

module _ (s : SaftVRQMiePars) (q : SlopedState) (w : SlopedList) (wanted : Bool) where
  abbrev outcome : Ans (EnergiesIn (DualOf Float))
  outcome = energies_slope_at port s q w wanted

  abbrev worked : Ans (EnergiesIn Mixed)
  worked = contributions_slope port s q.temperature q.fractions.values q.fractions.slopes q.densities.values q.densities.slopes w.values w.slopes wanted

  pub stops : (k : ℕ) → each_taken taken worked ≡ refused k → refused k ≡ outcome
  unfolding energies_slope
  stops k h = given_refused worked k h

  module _ (found : EnergiesIn (DualOf Float)) (is : each_taken taken worked ≡ held (each_in sloped found)) where
    is_given : outcome ≡ (demand 7 (slopes_finite found) >>= λ _. held found)
    unfolding energies_slope
    is_given = given_held worked found is

    pub refuses_7 : slopes_finite found ≡ false → refused 7 ≡ outcome
    unfolding demand ◌>>=◌
    refuses_7 h = rw (is_given, h)

    pub holds : slopes_finite found ≡ true → held found ≡ outcome
    unfolding demand ◌>>=◌
    holds h = rw (is_given, h)
