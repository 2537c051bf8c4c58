-- 'Values must be bit for bit those of the chain without slopes' (document 02, Slip 1), of the energies as an operation: where the energies with slopes hold on a table, and lengths and limits pass, the energies without slopes hold, with their values.
use Rattle.std.specs.Prelude.{ℕ, Float, Bool, true, List, ◌≡◌}
use Rattle.number.specs.Ans.{held}
use Rattle.number.specs.Arith.{floats}
use Rattle.number.specs.Functions.{Answers, calls}
use Rattle.limits.specs.Limits.{state_within}
use Rattle.dual.specs.Dual.{DualOf}
use Rattle.slopes.specs.Mixed.{Mixed, value_of, mixed_one}
use Rattle.slopes.specs.Rules.{mixed_functions}
use Rattle.saftvrqmie_parameters.specs.declared.SaftVRQMiePars.{SaftVRQMiePars}
use Rattle.saftvrqmie_dispersion_sums.specs.State.{SheetsIn}
use Rattle.saftvrqmie_energies.specs.Energies.{EnergiesIn, contributions, state_lengths, energies_by}
use Rattle.saftvrqmie_energies_slopes.specs.Energies.{energies_slope}
use Rattle.slopes_values.specs.Values.{sheets_values, energies_values}

-- the values alone
abbrev pub duals_values : EnergiesIn (DualOf Float) → EnergiesIn Float
duals_values e = record { hard_sphere = e.hard_sphere.re; dispersion = e.dispersion.re; non_additive = e.non_additive.re }

pub record EnergiesKept : Type 0 where
  pub energies_kept : (E : Answers) (s : SaftVRQMiePars) (t : DualOf Float) (x x' rho rho' table table' : List Float) (wanted : Bool) (e : EnergiesIn (DualOf Float)) → energies_slope E s t x x' rho rho' table table' wanted ≡ held e
      → state_lengths s.count x rho table ≡ true → state_within s.count t.re x rho ≡ true → energies_by E s t.re x rho table wanted ≡ held (duals_values e)

-- the contributions in the arithmetic of the energies, as `ValuesKept` has them at `mixed`
pub record OneKept : Type 0 where
  pub contributions_one_kept : (E : Answers) (s : SheetsIn Mixed) (x rho m : ℕ → Mixed) (t : Mixed) (wanted : Bool) (e : EnergiesIn Mixed) → contributions mixed_one (mixed_functions E) s x rho m t wanted ≡ held e
      → contributions floats (calls floats E) (sheets_values s) (λ i. value_of (x i)) (λ i. value_of (rho i)) (λ i. value_of (m i)) (value_of t) wanted ≡ held (energies_values e)
