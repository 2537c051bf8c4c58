-- The operation, test by test. Assumes nothing.
use Prim.Native.Nat.{ℕ}
use lib.Ieee.{Float}
use mathlib.Core.Path.{◌≡◌}
use mathlib.Core.Bool.{Bool, true, false}
use Rattle.number.specs.Ans.{Ans, held, refused, ◌>>=◌, demand}
use Rattle.elementary.specs.Port.{port}
use Rattle.dual.specs.Dual.{DualOf}
use Rattle.limits.specs.Limits.{state_within}
use Rattle.slopes_lists.specs.Lists.{SlopedList, SlopedState, sloped_lengths, supplied_finite}
use Rattle.saftvrqmie_parameters.specs.declared.SaftVRQMiePars.{SaftVRQMiePars}
use Rattle.saftvrqmie_energies.specs.Energies.{EnergiesIn}
use Rattle.saftvrqmie_table_slopes.specs.Table.{table_slopes}
use Rattle.saftvrqmie_energies_slopes.specs.Energies.{energies_slope_at}
use Rattle.saftvrqmie_slopes.specs.Operation.{energies_slopes_by, energies_slopes}

module _ (s : SaftVRQMiePars) (q : SlopedState) (wanted : Bool) where
  pub slopes_1 : sloped_lengths s.count q ≡ false → refused 1 ≡ energies_slopes s q wanted
  unfolding energies_slopes_by demand ◌>>=◌
  slopes_1 p = rw p

  module _ (p : sloped_lengths s.count q ≡ true) where
    abbrev within : Bool
    within = state_within s.count q.temperature.re q.fractions.values q.densities.values

    pub slopes_2 : within ≡ false → refused 2 ≡ energies_slopes s q wanted
    unfolding energies_slopes_by demand ◌>>=◌
    slopes_2 h = rw (p, h)

    module _ (h : within ≡ true) where
      pub slopes_7 : supplied_finite s.count q ≡ false → refused 7 ≡ energies_slopes s q wanted
      unfolding energies_slopes_by demand ◌>>=◌
      slopes_7 f = rw (p, h, f)

      module _ (f : supplied_finite s.count q ≡ true) where
        abbrev table : Ans SlopedList
        table = table_slopes port s.count s.sheets s.orders q.temperature

        pub slopes_table : (a : Ans (EnergiesIn (DualOf Float))) (k : ℕ) → table ≡ refused k → a ≡ refused k → a ≡ energies_slopes s q wanted
        unfolding energies_slopes_by demand ◌>>=◌
        slopes_table a k e r = rw (p, h, f, e, r)

        pub slopes_energies : (a : Ans (EnergiesIn (DualOf Float))) (w : SlopedList) → table ≡ held w
            → a ≡ energies_slope_at port s q w wanted → a ≡ energies_slopes s q wanted
        unfolding energies_slopes_by demand ◌>>=◌
        slopes_energies a w e r = rw (p, h, f, e) r
