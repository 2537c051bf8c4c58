-- Dispersion, and dispersion with chain, as an operation on a set: where each number is read, the tests in their order, and the answer.
use Rattle.std.specs.Prelude.{ℕ, ◌+◌, ◌*◌, eqb, Float, length, List, Bool, ◌&&◌, cond}
use Rattle.std.specs.Float.Ieee.Scale.{finite}
use Rattle.number.specs.Ans.{Ans, held, ◌>>=◌, demand}
use Rattle.number.specs.Arith.{Arith, floats}
use Rattle.number.specs.Functions.{Answers, Functions, calls}
use Rattle.number.specs.Lists.{at}
use Rattle.sizes.specs.Sizes.{sheet, cell}
use Rattle.elementary.specs.Port.{port}
use Rattle.limits.specs.Limits.{count_within, state_within}
use Rattle.saftvrmie_parameters.specs.declared.PairParameters.{PairParameters}
use Rattle.saftvrmie_parameters.specs.declared.SaftVRMiePars.{SaftVRMiePars}
use Rattle.saftvrmie_parameters.specs.Parameters.{pair_at}
use Rattle.saftvrmie_dispersion.specs.Answer.{pair_in}
use Rattle.saftvrmie_energies.specs.Dispersion.{StateIn, dispersion, dispersion_chain}

-- ---- what is read where

-- a component: 'VR Mie's pure terms read sigma, epsilon_k, la and lr of the component lists'; c and alpha stand at (i, i) of their sheets
abbrev pub pure_at : List Float → List Float → List Float → List Float → List Float → ℕ → PairParameters
pure_at sigma epsilon_k lr la s i =
    record {
      sigma = at sigma i;
      epsilon_k = at epsilon_k i;
      lr = at lr i;
      la = at la i;
      c = at s (4 * sheet + cell i i);
      alpha = at s (5 * sheet + cell i i);
    }

-- the state from the set and the lists, each number entered by lit
abbrev pub state_in : {N : Type 0} → (Float → N) → SaftVRMiePars → Float → List Float → List Float → List Float → StateIn N
state_in lit p t x rho d =
    record {
      temperature = lit t;
      fraction = λ i. lit (at x i);
      density = λ i. lit (at rho i);
      diameter = λ i. lit (at d i);
      m = λ i. lit (at p.m i);
      pure = λ i. pair_in lit (pure_at p.sigma p.epsilon_k p.lr p.la p.sheets i);
      pair = λ i j. pair_in lit (pair_at p.sheets i j);
    }

-- ---- the operation

-- 1: the count, or a list that is not as long as it
unfoldable pub state_lengths : ℕ → ℕ → ℕ → ℕ → Bool
state_lengths n x rho d = count_within n && eqb x n && eqb rho n && eqb d n

-- dispersion, or dispersion with chain, in any run
unfoldable pub energy_run : (A : Arith) → Functions A.Num → SaftVRMiePars → Float → List Float → List Float → List Float → Bool → Ans A.Num
energy_run A F p t x rho d chain =
    let s = state_in A.lit p t x rho d in
    cond chain (dispersion_chain A F p.count s) (dispersion A F p.count s)

-- 1; 2, diameters being read as they are; 6 anywhere on the way; then 7 if the energy is not finite, of any float run
abbrev pub energy_from : SaftVRMiePars → Float → List Float → List Float → List Float → Ans Float → Ans Float
energy_from p t x rho d run =
    demand 1 (state_lengths p.count (length x) (length rho) (length d)) >>= λ _.
    demand 2 (state_within p.count t x rho) >>= λ _.
    run >>= λ v.
    demand 7 (finite v) >>= λ _.
    held v

-- whatever the elementary functions answer
unfoldable pub energy_by : Answers → SaftVRMiePars → Float → List Float → List Float → List Float → Bool → Ans Float
energy_by E p t x rho d chain = energy_from p t x rho d (energy_run floats (calls floats E) p t x rho d chain)

abbrev pub energy : SaftVRMiePars → Float → List Float → List Float → List Float → Bool → Ans Float
energy = energy_by port
