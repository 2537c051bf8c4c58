-- The ways of the two-ended operation, test by test; and demand 3 on it: whatever is handed in and whatever the elementary functions answer, the ends that are reported enclose the float operation's result and the exact run's. Assumes nothing.
use mathlib.Core.Path.{◌≡◌, ap, ◌∙◌}
use mathlib.Core.Bool.{Bool, true, false}
use mathlib.Core.List.{List}
use lib.Ieee.{Float}
use lib.ListN.{length}
use Rattle.number.specs.Ans.{Ans, held, refused}
use Rattle.number.specs.Arith.{Arith, floats}
use Rattle.number.specs.Functions.{Answers, calls}
use Rattle.number.proofs.Rel.{Rel, Both, calls_rel}
use Rattle.enclosure.specs.declared.Enclosure.{Enclosure}
use Rattle.enclosure.specs.declared.Ends.{Ends}
use Rattle.enclosure.specs.Enclosure.{enclosures}
use Rattle.enclosure.specs.Constants.{Choice}
use Rattle.enclosure.specs.Exact.{exacts}
use Rattle.enclosure.specs.Ends.{Fair, Encloses, ends_alone}
use Rattle.enclosure.proofs.Relations.{Value, values, contains}
use Rattle.enclosure.proofs.TwoEnds.{operation_1, operation_2, operation_alone, operation_encloses}
use Rattle.saftvrmie_parameters.specs.declared.SaftVRMiePars.{SaftVRMiePars}
use Rattle.limits.specs.Limits.{state_within}
use Rattle.saftvrmie_energies.specs.Energies.{state_lengths, energy_run, energy_by}
use Rattle.saftvrmie_energies.proofs.Relation.{energy_run_rel}
use Rattle.saftvrmie_energies_ends.specs.Operation.{dispersion_ends}

module _ (E : Answers) (s : SaftVRMiePars) (t : Float) (x rho d : List Float) (chain : Bool) where
  run_rel : (A B : Arith) (K : Rel A B) → Both K.R (energy_run A (calls A E) s t x rho d chain) (energy_run B (calls B E) s t x rho d chain)
  run_rel A B K = energy_run_rel A B K (calls A E) (calls B E) (calls_rel A B K E) s t x rho d chain

  pub run_values : Both Value (energy_run enclosures (calls enclosures E) s t x rho d chain) (energy_run floats (calls floats E) s t x rho d chain)
  run_values = run_rel enclosures floats values

  pub refuses_1 : state_lengths s.count (length x) (length rho) (length d) ≡ false → refused 1 ≡ dispersion_ends E s t x rho d chain
  unfolding dispersion_ends energy_by
  refuses_1 = operation_1 run_values _ _

  module _ (p : state_lengths s.count (length x) (length rho) (length d) ≡ true) where
    pub refuses_2 : state_within s.count t x rho ≡ false → refused 2 ≡ dispersion_ends E s t x rho d chain
    unfolding dispersion_ends energy_by
    refuses_2 = operation_2 run_values _ _ p

    -- 6, 7, 8 or the ends, from the two-ended run
    pub ends_are : state_within s.count t x rho ≡ true → (a : Ans Enclosure) (r : Ans Ends) → a ≡ energy_run enclosures (calls enclosures E) s t x rho d chain → r ≡ ends_alone a → r ≡ dispersion_ends E s t x rho d chain
    unfolding dispersion_ends energy_by
    ends_are q a r g h = h ∙ (ap ends_alone g ∙ operation_alone run_values _ _ p q)

  -- for any elementary answers and any fair choice of the constants: the float operation's result and the exact run's
  pub dispersion_encloses : (q : Choice) → Fair q → (e : Ends) → dispersion_ends E s t x rho d chain ≡ held e → Encloses e (energy_by E s t x rho d chain) (energy_run (exacts q) (calls (exacts q) E) s t x rho d chain)
  unfolding dispersion_ends energy_by
  dispersion_encloses q fair = operation_encloses run_values _ _ (run_rel enclosures (exacts q) (contains q fair))
