-- The quantum energies as an operation: hard sphere, dispersion and, if wanted, non-additive, from a set, a temperature, fractions, densities and a table.
use Rattle.std.specs.Prelude.{ℕ, ◌*◌, eqb, Float, length, List, Bool, ◌&&◌, cond, Result}
use Rattle.number.specs.declared.refusal.Refusal.{Refusal}
use Rattle.number.specs.Answer.{answer_by}
use Rattle.std.specs.Float.Ieee.Scale.{finite}
use Rattle.number.specs.Ans.{Ans, held, ◌>>=◌, demand}
use Rattle.number.specs.Arith.{Arith, floats, zero64}
use Rattle.number.specs.Functions.{Functions, Answers, calls}
use Rattle.sizes.specs.Sizes.{sheet}
use Rattle.elementary.specs.Port.{port}
use Rattle.limits.specs.Limits.{count_within, state_within}
use Rattle.saftvrqmie_parameters.specs.declared.SaftVRQMiePars.{SaftVRQMiePars}
use Rattle.saftvrqmie_hard_sphere.specs.State.{points, diagonal}
use Rattle.saftvrqmie_hard_sphere.specs.HardSphere.{hard_sphere}
use Rattle.saftvrqmie_hard_sphere.specs.NonAdditive.{non_additive}
use Rattle.saftvrqmie_dispersion_sums.specs.State.{SheetsIn, sheets_of_state}
use Rattle.saftvrqmie_dispersion_sums.specs.Dispersion.{dispersion}
use Rattle.saftvrqmie_energies.specs.declared.Energies.{Energies}

-- the three contributions, in the numbers N
pub record EnergiesIn (N : Type 0) : Type 0 where
  pub hard_sphere : N
  pub dispersion : N
  pub non_additive : N

-- what a run holds of them
abbrev pub each_by : {D N : Type 0} → (D → N) → Energies D → EnergiesIn N
each_by of e = record { hard_sphere = of e.hard_sphere; dispersion = of e.dispersion; non_additive = of e.non_additive }

-- as it holds them: floats, enclosures, ends
abbrev pub energies_in : {N : Type 0} → Energies N → EnergiesIn N
energies_in = each_by (λ x. x)

abbrev pub energies_answer : {N : Type 0} → Result (Energies N) Refusal → Ans (EnergiesIn N)
energies_answer = answer_by energies_in

-- each taken as a number that a run can hold
abbrev pub each_in : {M N : Type 0} → (M → N) → EnergiesIn M → EnergiesIn N
each_in f e = record { hard_sphere = f e.hard_sphere; dispersion = f e.dispersion; non_additive = f e.non_additive }

abbrev pub each_taken : {M N : Type 0} → (M → N) → Ans (EnergiesIn M) → Ans (EnergiesIn N)
each_taken f a = a >>= λ e. held (each_in f e)

-- The contributions, from the sheets, mole fractions, partial densities, m and the temperature. A non-additive part that is not wanted is +0 and nothing of it is worked
unfoldable pub contributions : (A : Arith) → Functions A.Num → SheetsIn A.Num → (ℕ → A.Num) → (ℕ → A.Num) → (ℕ → A.Num) → A.Num → Bool → Ans (EnergiesIn A.Num)
contributions A F s x rho m t wanted =
    hard_sphere A F s.count x rho (diagonal s.hs_diameter) m >>= λ h.
    dispersion A F s x rho m t >>= λ d.
    held (record { hard_sphere = h; dispersion = d; non_additive = cond wanted (non_additive A F s.count rho m s.hs_diameter) (A.lit zero64) })

-- of a call's lists
abbrev pub contributions_of : (A : Arith) → Functions A.Num → SaftVRQMiePars → Float → List Float → List Float → List Float → Bool → Ans (EnergiesIn A.Num)
contributions_of A F s t x rho table wanted =
    contributions A F (sheets_of_state A s.count s.sheets s.orders t table) (points A x) (points A rho) (points A s.m) (A.lit t) wanted

-- 7: a contribution is not finite
unfoldable pub energies_finite : EnergiesIn Float → Bool
energies_finite e = finite e.hard_sphere && finite e.dispersion && finite e.non_additive

-- 1: the count, fractions and densities of another length, a table that has not 256 places
unfoldable pub state_lengths : ℕ → List Float → List Float → List Float → Bool
state_lengths n x rho table = count_within n && eqb (length x) n && eqb (length rho) n && eqb (length table) (4 * sheet)

-- '1; 2 for temperature, fractions or densities; 6; 7 if a contribution is not finite', of any run: 7 looks at the float run's values
abbrev pub tested : (A : Arith) → SaftVRQMiePars → Float → List Float → List Float → List Float → Ans (EnergiesIn A.Num) → Ans (EnergiesIn A.Num)
tested A s t x rho table run =
    demand 1 (state_lengths s.count x rho table) >>= λ _.
    demand 2 (state_within s.count t x rho) >>= λ _.
    run >>= λ e.
    demand 7 (energies_finite (each_in A.val e)) >>= λ _.
    held e

-- of any float run
abbrev pub energies_from : SaftVRQMiePars → Float → List Float → List Float → List Float → Ans (EnergiesIn Float) → Ans (EnergiesIn Float)
energies_from = tested floats

-- whatever the elementary functions answer
unfoldable pub energies_by : Answers → SaftVRQMiePars → Float → List Float → List Float → List Float → Bool → Ans (EnergiesIn Float)
energies_by E s t x rho table wanted = energies_from s t x rho table (contributions_of floats (calls floats E) s t x rho table wanted)

abbrev pub energies : SaftVRQMiePars → Float → List Float → List Float → List Float → Bool → Ans (EnergiesIn Float)
energies = energies_by port
