-- Demand 3 with answers that may differ from call to call: each answer hangs on the function called, its arguments, and the whole expression that made these arguments, other answers included.
-- What the form does not cover: two calls of one run that were made by the very same expression from equal inputs are one call here, and get one answer.
use Rattle.std.specs.Prelude.{ℕ, Float, List, Bool}
use Rattle.number.specs.Ans.{Ans, held, ◌>>=◌}
use Rattle.number.specs.Arith.{Arith, floats}
use Rattle.histories.specs.History.{HistoryAnswers, histories, asks, without_history}
use Rattle.enclosure.specs.Enclosure.{enclosures}
use Rattle.enclosure.specs.Constants.{Choice}
use Rattle.enclosure.specs.Exact.{exacts}
use Rattle.enclosure.specs.Ends.{ends_in, ends_of, Fair, Encloses}
use Rattle.saftvrqmie_parameters.specs.declared.SaftVRQMiePars.{SaftVRQMiePars}
use Rattle.saftvrqmie_energies.specs.Energies.{EnergiesIn, contributions_of, energies_from}
use Rattle.saftvrqmie_energies_ends.specs.Operation.{together, all_sound, each_ends, each_ends_of}
use Rattle.saftvrqmie_energies_ends.specs.Encloses.{EachEncloses}
use Rattle.saftvrqmie_tank.specs.Tank.{TankLists, layer_at, tank_run, tank_from}
use Rattle.saftvrqmie.specs.Pairs as Quantum
use Rattle.saftvrmie_parameters.specs.declared.SaftVRMiePars.{SaftVRMiePars}
use Rattle.saftvrmie_energies.specs.Energies as MieEnergies
use Rattle.saftvrmie.specs.Pairs as Mie
use Rattle.demand_three.specs.TwoEnded.{TwoEnded}
use Rattle.demand_three.specs.Demand.{is_sound}

-- The four runs in the numbers A: worked with histories, which the answers look at, and read without them.
module _ (E : HistoryAnswers) (A : Arith) where
  abbrev pub energies_run : SaftVRQMiePars → Float → List Float → List Float → List Float → Bool → Ans (EnergiesIn A.Num)
  energies_run s t x rho table wanted =
      contributions_of (histories A) (asks A E) s t x rho table wanted >>= λ e.
      held (together e.hard_sphere.number e.dispersion.number e.non_additive.number)

  abbrev pub quantum_diameter_run : SaftVRQMiePars → ℕ → ℕ → Float → Float → Float → Ans A.Num
  quantum_diameter_run s i j t sigma_eff r0 = without_history (Quantum.diameter_run (histories A) (asks A E) s i j t sigma_eff r0)

  abbrev pub dispersion_run : SaftVRMiePars → Float → List Float → List Float → List Float → Bool → Ans A.Num
  dispersion_run s t x rho d chain = without_history (MieEnergies.energy_run (histories A) (asks A E) s t x rho d chain)

  abbrev pub mie_diameter_run : SaftVRMiePars → ℕ → ℕ → Float → Float → Ans A.Num
  mie_diameter_run s i j t r0 = without_history (Mie.diameter_run (histories A) (asks A E) s i j t r0)

-- a tank's layers, each with answers of its own
abbrev pub layer_runs : (ℕ → HistoryAnswers) → (A : Arith) → SaftVRQMiePars → TankLists → Bool → ℕ → List Float → Ans (EnergiesIn A.Num)
layer_runs E A s q wanted l table = let y = layer_at s.count q l in energies_run (E l) A s y.temperature y.fractions y.densities table wanted

-- Each operation as it stands in its contract, on such runs; the exact run takes any fair choice of the constants.
pub record Demand3ByHistory : Type 0 where
  pub quantum_energies : (E : HistoryAnswers) (q : Choice) → Fair q → (s : SaftVRQMiePars) (t : Float) (x rho table : List Float) (wanted : Bool)
      → let float = energies_from s t x rho table (energies_run E floats s t x rho table wanted) in
      let run = energies_run E enclosures s t x rho table wanted in
      TwoEnded all_sound each_ends EachEncloses float run (energies_run E (exacts q) s t x rho table wanted) (each_ends_of float run)
  pub quantum_diameter : (E : HistoryAnswers) (q : Choice) → Fair q → (s : SaftVRQMiePars) (i j : ℕ) (t sigma_eff r0 : Float)
      → let float = Quantum.diameter_ij_from s i j t (quantum_diameter_run E floats s i j t sigma_eff r0) in
      let run = quantum_diameter_run E enclosures s i j t sigma_eff r0 in
      TwoEnded is_sound ends_in Encloses float run (quantum_diameter_run E (exacts q) s i j t sigma_eff r0) (ends_of float run)
  pub mie_dispersion : (E : HistoryAnswers) (q : Choice) → Fair q → (s : SaftVRMiePars) (t : Float) (x rho d : List Float) (chain : Bool)
      → let float = MieEnergies.energy_from s t x rho d (dispersion_run E floats s t x rho d chain) in
      let run = dispersion_run E enclosures s t x rho d chain in
      TwoEnded is_sound ends_in Encloses float run (dispersion_run E (exacts q) s t x rho d chain) (ends_of float run)
  pub mie_diameter : (E : HistoryAnswers) (q : Choice) → Fair q → (s : SaftVRMiePars) (i j : ℕ) (t r0 : Float)
      → let float = Mie.diameter_ij_from s i j t (mie_diameter_run E floats s i j t r0) in
      let run = mie_diameter_run E enclosures s i j t r0 in
      TwoEnded is_sound ends_in Encloses float run (mie_diameter_run E (exacts q) s i j t r0) (ends_of float run)
  pub quantum_tank : (E : ℕ → HistoryAnswers) (q : Choice) → Fair q → (s : SaftVRQMiePars) (l : TankLists) (tables : ℕ → Ans (List Float)) (wanted : Bool)
      → let float = tank_from s l tables wanted (layer_runs E floats s l wanted) in
      let run = tank_run enclosures l tables wanted (layer_runs E enclosures s l wanted) in
      TwoEnded all_sound each_ends EachEncloses float run (tank_run (exacts q) l tables wanted (layer_runs E (exacts q) s l wanted)) (each_ends_of float run)
