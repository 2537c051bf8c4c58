-- Demand 3 holds with answers that look at the arguments alone, as the port's do: such runs are those with histories, read without them. Assumes nothing.
use Prim.Native.Nat.{ℕ}
use mathlib.Core.Path.{◌≡◌, refl, ap}
use mathlib.Core.List.{List}
use mathlib.Core.Bool.{Bool}
use lib.Ieee.{Float}
use Rattle.number.specs.Ans.{Ans, held, ◌>>=◌}
use Rattle.number.specs.Arith.{Arith, floats}
use Rattle.number.specs.Functions.{Answers, calls}
use Rattle.number.proofs.Rel.{Rel, Both, both_held, both_refused, calls_rel}
use Rattle.histories.specs.History.{Traced, histories, asks, unlooking}
use Rattle.histories.proofs.Same.{Forgets, forgotten, forgets, unlooking_rel}
use Rattle.enclosure.specs.Enclosure.{enclosures}
use Rattle.enclosure.specs.Constants.{Choice}
use Rattle.enclosure.specs.Exact.{exacts}
use Rattle.enclosure.specs.Ends.{ends_in, ends_of, Fair, Encloses}
use Rattle.enclosure.proofs.Relations.{values, contains}
use Rattle.saftvrqmie_parameters.specs.declared.SaftVRQMiePars.{SaftVRQMiePars}
use Rattle.saftvrqmie_energies.specs.Energies.{EnergiesIn, contributions_of, energies_from, energies_by}
use Rattle.saftvrqmie_energies.proofs.Relation.{EnergiesR, contributions_of_rel}
use Rattle.saftvrqmie_energies_ends.specs.Operation.{together, all_sound, each_ends, each_ends_of, energies_ends}
use Rattle.saftvrqmie_energies_ends.specs.Encloses.{EachEncloses}
use Rattle.saftvrqmie_tank.specs.Tank.{TankLists, layer_at, tank_run, tank_from, runs_by}
use Rattle.saftvrqmie_tank_ends.specs.TankEnds.{tank_ends_by}
use Rattle.saftvrqmie.specs.Pairs as Quantum
use Rattle.saftvrqmie_diameter_ends.specs.Operations as QuantumDiameter
use Rattle.saftvrqmie_diameter_ends.proofs.Encloses as QuantumEncloses
use Rattle.saftvrmie_parameters.specs.declared.SaftVRMiePars.{SaftVRMiePars}
use Rattle.saftvrmie_energies.specs.Energies as MieEnergies
use Rattle.saftvrmie_energies.proofs.Relation.{energy_run_rel}
use Rattle.saftvrmie_energies_ends.specs.Operation.{dispersion_ends}
use Rattle.saftvrmie.specs.Pairs as Mie
use Rattle.saftvrmie_diameter_ends.specs.Operations as MieDiameter
use Rattle.saftvrmie_diameter_ends.proofs.Encloses as MieEncloses
use Rattle.demand_three.specs.TwoEnded.{TwoEnded}
use Rattle.demand_three.specs.Demand.{is_sound, Demand3}
use Rattle.demand_three.specs.ByHistory.{energies_run, quantum_diameter_run, dispersion_run, mie_diameter_run}
use Rattle.demand_three.proofs.ByHistory.{demand_3_by_history}
use Rattle.demand_three.proofs.Tank.{tank_ended}

each_forgotten : (A : Arith) {a : Ans (EnergiesIn (Traced A.Num))} {b : Ans (EnergiesIn A.Num)} → Both (EnergiesR (Forgets A)) a b → (a >>= λ e. held (together e.hard_sphere.number e.dispersion.number e.non_additive.number)) ≡ b
unfolding ◌>>=◌
each_forgotten A (both_held p) = ap held (rw (p.hard_sphere, p.dispersion, p.non_additive))
each_forgotten A both_refused = refl

-- what is said of three runs is said of equal ones
equal_runs : {F B X : Type 0} (P : Ans F → Ans B → Ans X → Type 0) {a a' : Ans F} {b b' : Ans B} {x x' : Ans X} → a ≡ a' → b ≡ b' → x ≡ x' → P a b x → P a' b' x'
equal_runs P p q r h = rw (← p, ← q, ← r) h

module _ (E : Answers) (q : Choice) (fair : Fair q) where
  module _ (s : SaftVRQMiePars) (t : Float) (x rho table : List Float) (wanted : Bool) where
    energies_plain : (A : Arith) → energies_run (unlooking E) A s t x rho table wanted ≡ contributions_of A (calls A E) s t x rho table wanted
    energies_plain A = each_forgotten A (contributions_of_rel (histories A) A (forgets A) (asks A (unlooking E)) (calls A E) (unlooking_rel A E) s t x rho table wanted)

    quantum_energies : TwoEnded all_sound each_ends EachEncloses (energies_by E s t x rho table wanted) (contributions_of enclosures (calls enclosures E) s t x rho table wanted) (contributions_of (exacts q) (calls (exacts q) E) s t x rho table wanted) (energies_ends E s t x rho table wanted)
    unfolding energies_ends energies_by
    quantum_energies =
        equal_runs (λ a b c. TwoEnded all_sound each_ends EachEncloses (energies_from s t x rho table a) b c (each_ends_of (energies_from s t x rho table a) b))
        (energies_plain floats) (energies_plain enclosures) (energies_plain (exacts q)) (demand_3_by_history.quantum_energies (unlooking E) q fair s t x rho table wanted)

  module _ (s : SaftVRQMiePars) (i j : ℕ) (t sigma_eff r0 : Float) where
    quantum_plain : (A : Arith) → quantum_diameter_run (unlooking E) A s i j t sigma_eff r0 ≡ Quantum.diameter_run A (calls A E) s i j t sigma_eff r0
    quantum_plain A = forgotten A (QuantumEncloses.run_rel (histories A) A (forgets A) (asks A (unlooking E)) (calls A E) (unlooking_rel A E) s i j t sigma_eff r0)

    quantum_diameter : TwoEnded is_sound ends_in Encloses (Quantum.diameter_ij_by E s i j t sigma_eff r0) (Quantum.diameter_run enclosures (calls enclosures E) s i j t sigma_eff r0) (Quantum.diameter_run (exacts q) (calls (exacts q) E) s i j t sigma_eff r0) (QuantumDiameter.diameter_ends E s i j t sigma_eff r0)
    unfolding QuantumDiameter.diameter_ends Quantum.diameter_ij_by
    quantum_diameter =
        equal_runs (λ a b c. TwoEnded is_sound ends_in Encloses (Quantum.diameter_ij_from s i j t a) b c (ends_of (Quantum.diameter_ij_from s i j t a) b))
        (quantum_plain floats) (quantum_plain enclosures) (quantum_plain (exacts q)) (demand_3_by_history.quantum_diameter (unlooking E) q fair s i j t sigma_eff r0)

  module _ (s : SaftVRMiePars) (t : Float) (x rho d : List Float) (chain : Bool) where
    dispersion_plain : (A : Arith) → dispersion_run (unlooking E) A s t x rho d chain ≡ MieEnergies.energy_run A (calls A E) s t x rho d chain
    dispersion_plain A = forgotten A (energy_run_rel (histories A) A (forgets A) (asks A (unlooking E)) (calls A E) (unlooking_rel A E) s t x rho d chain)

    mie_dispersion : TwoEnded is_sound ends_in Encloses (MieEnergies.energy_by E s t x rho d chain) (MieEnergies.energy_run enclosures (calls enclosures E) s t x rho d chain) (MieEnergies.energy_run (exacts q) (calls (exacts q) E) s t x rho d chain) (dispersion_ends E s t x rho d chain)
    unfolding dispersion_ends MieEnergies.energy_by
    mie_dispersion =
        equal_runs (λ a b c. TwoEnded is_sound ends_in Encloses (MieEnergies.energy_from s t x rho d a) b c (ends_of (MieEnergies.energy_from s t x rho d a) b))
        (dispersion_plain floats) (dispersion_plain enclosures) (dispersion_plain (exacts q)) (demand_3_by_history.mie_dispersion (unlooking E) q fair s t x rho d chain)

  module _ (s : SaftVRMiePars) (i j : ℕ) (t r0 : Float) where
    mie_plain : (A : Arith) → mie_diameter_run (unlooking E) A s i j t r0 ≡ Mie.diameter_run A (calls A E) s i j t r0
    mie_plain A = forgotten A (MieEncloses.run_rel (histories A) A (forgets A) (asks A (unlooking E)) (calls A E) (unlooking_rel A E) s i j t r0)

    mie_diameter : TwoEnded is_sound ends_in Encloses (Mie.diameter_ij_by E s i j t r0) (Mie.diameter_run enclosures (calls enclosures E) s i j t r0) (Mie.diameter_run (exacts q) (calls (exacts q) E) s i j t r0) (MieDiameter.diameter_ends E s i j t r0)
    unfolding MieDiameter.diameter_ends Mie.diameter_ij_by
    mie_diameter =
        equal_runs (λ a b c. TwoEnded is_sound ends_in Encloses (Mie.diameter_ij_from s i j t a) b c (ends_of (Mie.diameter_ij_from s i j t a) b))
        (mie_plain floats) (mie_plain enclosures) (mie_plain (exacts q)) (demand_3_by_history.mie_diameter (unlooking E) q fair s i j t r0)

  -- each layer's runs keep both relations, whatever its table
  module _ (s : SaftVRQMiePars) (y : TankLists) (tables : ℕ → Ans (List Float)) (wanted : Bool) where
    layers_rel : (A B : Arith) (K : Rel A B) (l : ℕ) (table : List Float) → Both (EnergiesR K.R) (runs_by A E s y wanted l table) (runs_by B E s y wanted l table)
    layers_rel A B K l table = let z = layer_at s.count y l in contributions_of_rel A B K (calls A E) (calls B E) (calls_rel A B K E) s z.temperature z.fractions z.densities table wanted

    quantum_tank : TwoEnded all_sound each_ends EachEncloses (tank_from s y tables wanted (runs_by floats E s y wanted)) (tank_run enclosures y tables wanted (runs_by enclosures E s y wanted)) (tank_run (exacts q) y tables wanted (runs_by (exacts q) E s y wanted)) (tank_ends_by E s y tables wanted)
    unfolding tank_ends_by
    quantum_tank = tank_ended q fair s y tables wanted (layers_rel enclosures floats values) (layers_rel enclosures (exacts q) (contains q fair))

pub demand_3 : Demand3
demand_3 = record { quantum_energies = quantum_energies; quantum_diameter = quantum_diameter; mie_dispersion = mie_dispersion; mie_diameter = mie_diameter; quantum_tank = quantum_tank }
