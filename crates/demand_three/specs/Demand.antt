-- Demand 3, whole. A float run and an exact run on fractions get the same elementary answers, call by call: wherever two ends are reported, the exact run divides by no zero, and both results lie between the ends or on them, whatever is handed in, whatever is answered and whatever fair choice the exact run takes for the constants (Slip 7). Ends are reported wherever no numbered refusal applies, and they are, by bits, those that the outward rules give.
-- Answers are functions of the arguments here; ByHistory has those that may differ from call to call.
-- The contracts of the two-ended operations say that they answer `energiesEnds`, `dispersionEnds`, the two `diameterEnds` and `tankEndsBy` at the port's own answers, the tank with the tables of its layers' temperatures.
use Rattle.std.specs.Prelude.{ℕ, Float, List, Bool}
use Rattle.number.specs.Ans.{Ans}
use Rattle.number.specs.Arith.{floats}
use Rattle.number.specs.Functions.{Answers, calls}
use Rattle.enclosure.specs.declared.Enclosure.{Enclosure}
use Rattle.enclosure.specs.Enclosure.{enclosures}
use Rattle.enclosure.specs.Constants.{Choice}
use Rattle.enclosure.specs.Exact.{exacts}
use Rattle.enclosure.specs.Ends.{ends_in, Fair, Encloses}
use Rattle.saftvrqmie_parameters.specs.declared.SaftVRQMiePars.{SaftVRQMiePars}
use Rattle.saftvrqmie_energies.specs.Energies.{contributions_of, energies_by}
use Rattle.saftvrqmie_energies_ends.specs.Operation.{all_sound, each_ends, energies_ends}
use Rattle.saftvrqmie_energies_ends.specs.Encloses.{EachEncloses}
use Rattle.saftvrqmie_tank.specs.Tank.{TankLists, tank_run, tank_from, runs_by}
use Rattle.saftvrqmie_tank_ends.specs.TankEnds.{tank_ends_by}
use Rattle.saftvrqmie.specs.Pairs as Quantum
use Rattle.saftvrqmie_diameter_ends.specs.Operations as QuantumDiameter
use Rattle.saftvrmie_parameters.specs.declared.SaftVRMiePars.{SaftVRMiePars}
use Rattle.saftvrmie_energies.specs.Energies.{energy_run, energy_by}
use Rattle.saftvrmie_energies_ends.specs.Operation.{dispersion_ends}
use Rattle.saftvrmie.specs.Pairs as Mie
use Rattle.saftvrmie_diameter_ends.specs.Operations as MieDiameter
use Rattle.demand_three.specs.TwoEnded.{TwoEnded}

-- no operation on the way gives 8
abbrev pub is_sound : Enclosure → Bool
is_sound b = b.ends.sound

pub record Demand3 : Type 0 where
  -- quantum: hard sphere, dispersion and, if wanted, non-additive
  pub quantum_energies : (E : Answers) (q : Choice) → Fair q → (s : SaftVRQMiePars) (t : Float) (x rho table : List Float) (wanted : Bool)
      → TwoEnded all_sound each_ends EachEncloses (energies_by E s t x rho table wanted) (contributions_of enclosures (calls enclosures E) s t x rho table wanted) (contributions_of (exacts q) (calls (exacts q) E) s t x rho table wanted) (energies_ends E s t x rho table wanted)
  -- quantum: a pair's diameter from its two searched radii
  pub quantum_diameter : (E : Answers) (q : Choice) → Fair q → (s : SaftVRQMiePars) (i j : ℕ) (t sigma_eff r0 : Float)
      → TwoEnded is_sound ends_in Encloses (Quantum.diameter_ij_by E s i j t sigma_eff r0) (Quantum.diameter_run enclosures (calls enclosures E) s i j t sigma_eff r0) (Quantum.diameter_run (exacts q) (calls (exacts q) E) s i j t sigma_eff r0) (QuantumDiameter.diameter_ends E s i j t sigma_eff r0)
  -- SAFT-VR Mie: dispersion, and dispersion with chain
  pub mie_dispersion : (E : Answers) (q : Choice) → Fair q → (s : SaftVRMiePars) (t : Float) (x rho d : List Float) (chain : Bool)
      → TwoEnded is_sound ends_in Encloses (energy_by E s t x rho d chain) (energy_run enclosures (calls enclosures E) s t x rho d chain) (energy_run (exacts q) (calls (exacts q) E) s t x rho d chain) (dispersion_ends E s t x rho d chain)
  -- SAFT-VR Mie: a pair's diameter from its reduced lower limit
  pub mie_diameter : (E : Answers) (q : Choice) → Fair q → (s : SaftVRMiePars) (i j : ℕ) (t r0 : Float)
      → TwoEnded is_sound ends_in Encloses (Mie.diameter_ij_by E s i j t r0) (Mie.diameter_run enclosures (calls enclosures E) s i j t r0) (Mie.diameter_run (exacts q) (calls (exacts q) E) s i j t r0) (MieDiameter.diameter_ends E s i j t r0)
  -- quantum: a tank in layers (Slip 10), whatever the tables of its layers are
  pub quantum_tank : (E : Answers) (q : Choice) → Fair q → (s : SaftVRQMiePars) (l : TankLists) (tables : ℕ → Ans (List Float)) (wanted : Bool)
      → TwoEnded all_sound each_ends EachEncloses (tank_from s l tables wanted (runs_by floats E s l wanted)) (tank_run enclosures l tables wanted (runs_by enclosures E s l wanted)) (tank_run (exacts q) l tables wanted (runs_by (exacts q) E s l wanted)) (tank_ends_by E s l tables wanted)
