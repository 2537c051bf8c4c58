-- Demand 3 holds with answers that look at histories, operation by operation. Assumes nothing.
use Prim.Native.Nat.{ℕ}
use mathlib.Core.List.{List}
use mathlib.Core.Bool.{Bool}
use lib.Ieee.{Float}
use Rattle.number.specs.Arith.{Arith, floats}
use Rattle.number.proofs.Rel.{Rel, Both, both_held, then_both}
use Rattle.histories.specs.History.{HistoryAnswers, histories, asks}
use Rattle.histories.proofs.Same.{numbers, histories_rel, asks_rel}
use Rattle.enclosure.specs.Enclosure.{enclosures}
use Rattle.enclosure.specs.Exact.{exacts}
use Rattle.enclosure.proofs.Relations.{values, contains}
use Rattle.saftvrqmie_parameters.specs.declared.SaftVRQMiePars.{SaftVRQMiePars}
use Rattle.saftvrqmie_energies.proofs.Relation.{EnergiesR, contributions_of_rel}
use Rattle.saftvrqmie_diameter_ends.proofs.Encloses as QuantumEncloses
use Rattle.saftvrqmie_tank.specs.Tank.{TankLists, layer_at}
use Rattle.saftvrmie_parameters.specs.declared.SaftVRMiePars.{SaftVRMiePars}
use Rattle.saftvrmie_energies.proofs.Relation.{energy_run_rel}
use Rattle.saftvrmie_diameter_ends.proofs.Encloses as MieEncloses
use Rattle.demand_three.specs.ByHistory.{energies_run, quantum_diameter_run, dispersion_run, mie_diameter_run, layer_runs, Demand3ByHistory}
use Rattle.demand_three.proofs.General.{one_ended, three_ended}
use Rattle.demand_three.proofs.Tank.{tank_ended}

-- each run keeps what holds between two arithmetics
module _ (E : HistoryAnswers) (A B : Arith) (K : Rel A B) where
  abbrev L : Rel (histories A) (histories B)
  L = histories_rel A B K

  energies_rel : (s : SaftVRQMiePars) (t : Float) (x rho table : List Float) (wanted : Bool) → Both (EnergiesR K.R) (energies_run E A s t x rho table wanted) (energies_run E B s t x rho table wanted)
  energies_rel s t x rho table wanted =
      then_both (contributions_of_rel (histories A) (histories B) L (asks A E) (asks B E) (asks_rel A B K E) s t x rho table wanted) (λ _ _ r.
      both_held (record { hard_sphere = r.hard_sphere.number; dispersion = r.dispersion.number; non_additive = r.non_additive.number }))

  quantum_diameter_rel : (s : SaftVRQMiePars) (i j : ℕ) (t sigma_eff r0 : Float) → Both K.R (quantum_diameter_run E A s i j t sigma_eff r0) (quantum_diameter_run E B s i j t sigma_eff r0)
  quantum_diameter_rel s i j t sigma_eff r0 = numbers (QuantumEncloses.run_rel (histories A) (histories B) L (asks A E) (asks B E) (asks_rel A B K E) s i j t sigma_eff r0)

  dispersion_rel : (s : SaftVRMiePars) (t : Float) (x rho d : List Float) (chain : Bool) → Both K.R (dispersion_run E A s t x rho d chain) (dispersion_run E B s t x rho d chain)
  dispersion_rel s t x rho d chain = numbers (energy_run_rel (histories A) (histories B) L (asks A E) (asks B E) (asks_rel A B K E) s t x rho d chain)

  mie_diameter_rel : (s : SaftVRMiePars) (i j : ℕ) (t r0 : Float) → Both K.R (mie_diameter_run E A s i j t r0) (mie_diameter_run E B s i j t r0)
  mie_diameter_rel s i j t r0 = numbers (MieEncloses.run_rel (histories A) (histories B) L (asks A E) (asks B E) (asks_rel A B K E) s i j t r0)

layers_rel : (E : ℕ → HistoryAnswers) (A B : Arith) (K : Rel A B) (s : SaftVRQMiePars) (q : TankLists) (wanted : Bool) (l : ℕ) (table : List Float) → Both (EnergiesR K.R) (layer_runs E A s q wanted l table) (layer_runs E B s q wanted l table)
layers_rel E A B K s q wanted l table = let y = layer_at s.count q l in energies_rel (E l) A B K s y.temperature y.fractions y.densities table wanted

pub demand_3_by_history : Demand3ByHistory
demand_3_by_history =
    record {
      quantum_energies = λ E q fair s t x rho table wanted. three_ended _ _ (energies_rel E enclosures floats values s t x rho table wanted) (energies_rel E enclosures (exacts q) (contains q fair) s t x rho table wanted);
      quantum_diameter = λ E q fair s i j t sigma_eff r0. one_ended _ _ (quantum_diameter_rel E enclosures floats values s i j t sigma_eff r0) (quantum_diameter_rel E enclosures (exacts q) (contains q fair) s i j t sigma_eff r0);
      mie_dispersion = λ E q fair s t x rho d chain. one_ended _ _ (dispersion_rel E enclosures floats values s t x rho d chain) (dispersion_rel E enclosures (exacts q) (contains q fair) s t x rho d chain);
      mie_diameter = λ E q fair s i j t r0. one_ended _ _ (mie_diameter_rel E enclosures floats values s i j t r0) (mie_diameter_rel E enclosures (exacts q) (contains q fair) s i j t r0);
      quantum_tank = λ E q fair s l tables wanted. tank_ended q fair s l tables wanted (layers_rel E enclosures floats values s l wanted) (layers_rel E enclosures (exacts q) (contains q fair) s l wanted);
    }
