-- Lent lists and a run's own as the formulas read them: the contracts of helpers alone.
use Rattle.std.specs.Prelude.{ℕ, Float, List, map, length, Result, ◌≡◌, ◌<◌, ◌≤◌}
use Rattle.number.specs.declared.refusal.Refusal.{Refusal}
use Rattle.number.specs.Ans.{Ans}
use Rattle.number.specs.Answer.{answer_by}
use Rattle.number.specs.Arith.{Arith}
use Rattle.number.specs.Lists.{at, nth}
use Rattle.sizes.specs.Sizes.{side}
use Rattle.saftvrmie_parameters.specs.declared.SaftVRMiePars.{SaftVRMiePars}
use Rattle.saftvrmie_parameters.specs.Parameters.{pair_at}
use Rattle.saftvrmie_dispersion.specs.Terms.{PairIn}
use Rattle.saftvrmie_dispersion.specs.Answer.{pair_in, k_by}
use Rattle.saftvrmie_energies.specs.Properties.{PropertiesIn}
use Rattle.saftvrmie_energies.specs.Dispersion.{StateIn}
use Rattle.saftvrmie_energies.specs.Energies.{state_in}
use Rattle.saftvrmie_energies.specs.declared.properties.Properties.{Properties}
use Rattle.saftvrmie_energies.specs.declared.set.Set.{Set}
use Rattle.saftvrmie_energies.specs.declared.set.State.{State}

-- a lent list, each number entered by lit
abbrev pub entries : (A : Arith) → List Float → ℕ → A.Num
entries A l i = A.lit (at l i)

abbrev pub pairs : (A : Arith) → List Float → ℕ → ℕ → PairIn A.Num
pairs A sheets i j = pair_in A.lit (pair_at sheets i j)

-- a list of a run's numbers
abbrev pub read : {S : Type 0} (A : Arith) → (S → A.Num) → List S → ℕ → A.Num
read A of l = nth A (map of l)

-- what a closure gives of each pair of the count
abbrev pub Cubes : {D N : Type 0} → ℕ → (D → N) → (ℕ → ℕ → D → Type 0) → (ℕ → ℕ → N) → Type 0
Cubes n of post c = (i j : ℕ) (r : _) → i < n → j < n → post i j r → of r ≡ c i j

-- what a closure gives of each row below the count, from the sum before it
abbrev pub Rows : {D N : Type 0} → ℕ → (D → N) → (ℕ → D → Result D Refusal → Type 0) → (ℕ → N → Ans N) → Type 0
Rows n of post f = (i : ℕ) (sum : _) (r : _) → i < n → post i sum r → answer_by of r ≡ f i (of sum)

abbrev pub properties_by : {S N : Type 0} → (S → N) → Properties S → PropertiesIn N
properties_by of q = record { segment_density = of q.segment_density; zeta_x = of q.zeta_x; zeta_x_bar = of q.zeta_x_bar; k = k_by of q.k }

-- a set lent list by list
abbrev pub set_of : Set → SaftVRMiePars
set_of s = record { count = s.count; m = s.m.now; sigma = s.sigma.now; epsilon_k = s.epsilon_k.now; lr = s.lr.now; la = s.la.now; sheets = s.sheets.now }

-- a state in a run's numbers
abbrev pub state_of : (A : Arith) → State → StateIn A.Num
state_of A s = state_in A.lit (set_of s.set) s.temperature s.fractions.now s.densities.now s.diameters.now

-- what the operation has tested: lists as long as the count
abbrev pub Right : State → Type 0
Right s = (s.set.count ≤ side) × (length s.fractions.now ≡ s.set.count) × (length s.densities.now ≡ s.set.count) × (length s.diameters.now ≡ s.set.count)
