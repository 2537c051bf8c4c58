-- The quantum energies with slopes (document 02, Slip 1), from a set, and a temperature, fractions, densities and a table that carry slopes: 'each contribution coming back as value and slope'.
use Rattle.std.specs.Prelude.{Float, Bool, ◌&&◌, List, Result}
use Rattle.number.specs.declared.refusal.Refusal.{Refusal}
use Rattle.number.specs.Answer.{answer_by}
use Rattle.std.specs.Float.Ieee.Scale.{finite}
use Rattle.number.specs.Ans.{Ans, held, ◌>>=◌, demand}
use Rattle.number.specs.Functions.{Answers}
use Rattle.dual.specs.declared.Dual.{Dual}
use Rattle.dual.specs.Dual.{DualOf}
use Rattle.dual.specs.Value.{dual_of}
use Rattle.slopes.specs.Mixed.{Mixed, sloped, as_dual, mixed_one}
use Rattle.slopes.specs.Rules.{mixed_functions}
use Rattle.slopes_lists.specs.Lists.{SlopedList, SlopedState}
use Rattle.saftvrqmie_parameters.specs.declared.SaftVRQMiePars.{SaftVRQMiePars}
use Rattle.saftvrqmie_hard_sphere.specs.State.{points}
use Rattle.saftvrqmie_energies.specs.Energies.{EnergiesIn, each_by, contributions}
use Rattle.saftvrqmie_energies_slopes.specs.State.{sloped_at, sloped_sheets}
use Rattle.saftvrqmie_energies.specs.declared.Energies.{Energies}

abbrev pub energies_slopes_in : Energies Dual → EnergiesIn (DualOf Float)
energies_slopes_in = each_by dual_of

-- document 01's number or values of each case of `(Result QuantumEnergiesSlopes Refusal)`
abbrev pub energies_slopes_answer : Result (Energies Dual) Refusal → Ans (EnergiesIn (DualOf Float))
energies_slopes_answer = answer_by energies_slopes_in

-- each contribution as a D: a part that is not wanted is +0 with slope +0
abbrev pub as_duals : EnergiesIn Mixed → EnergiesIn (DualOf Float)
as_duals e = record { hard_sphere = as_dual e.hard_sphere; dispersion = as_dual e.dispersion; non_additive = as_dual e.non_additive }

unfoldable pub finite_dual : DualOf Float → Bool
finite_dual x = finite x.re && finite x.eps

-- 7: a contribution or its slope is not finite
unfoldable pub slopes_finite : EnergiesIn (DualOf Float) → Bool
slopes_finite e = finite_dual e.hard_sphere && finite_dual e.dispersion && finite_dual e.non_additive

-- The contributions of a set at a temperature with its slope; fractions, densities and table are lists of values, each followed by the list of its slopes. Powers that slopes ask can refuse with 6 too.
unfoldable pub contributions_slope : Answers → SaftVRQMiePars → DualOf Float → List Float → List Float → List Float → List Float → List Float → List Float → Bool → Ans (EnergiesIn Mixed)
contributions_slope E s t x x' rho rho' table table' wanted =
    contributions mixed_one (mixed_functions E) (sloped_sheets s.count s.sheets s.orders t table table') (sloped_at x x') (sloped_at rho rho') (points mixed_one s.m) (sloped t) wanted

-- the contributions as D's, with 6 and 7
unfoldable pub energies_slope : Answers → SaftVRQMiePars → DualOf Float → List Float → List Float → List Float → List Float → List Float → List Float → Bool → Ans (EnergiesIn (DualOf Float))
energies_slope E s t x x' rho rho' table table' wanted =
    contributions_slope E s t x x' rho rho' table table' wanted >>= λ e.
    demand 7 (slopes_finite (as_duals e)) >>= λ _.
    held (as_duals e)

-- of a state and a table
abbrev pub energies_slope_at : Answers → SaftVRQMiePars → SlopedState → SlopedList → Bool → Ans (EnergiesIn (DualOf Float))
energies_slope_at E s q w wanted = energies_slope E s q.temperature q.fractions.values q.fractions.slopes q.densities.values q.densities.slopes w.values w.slopes wanted
