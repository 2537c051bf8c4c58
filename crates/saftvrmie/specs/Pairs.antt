-- Operations on one pair of a set: its reduced lower limit, and its diameter from it.
use Rattle.std.specs.Prelude.{ℕ, Float}
use Rattle.std.specs.Float.Ieee.Scale.{finite}
use Rattle.number.specs.Ans.{Ans, held, ◌>>=◌, demand}
use Rattle.number.specs.Arith.{Arith, floats}
use Rattle.number.specs.Functions.{Functions, Answers, calls}
use Rattle.elementary.specs.Port.{port}
use Rattle.limits.specs.Limits.{index_within, temperature_within}
use Rattle.saftvrmie_diameter.specs.Diameter.{c_eps_t, lower_limit, diameter_from}
use Rattle.saftvrmie_parameters.specs.Parameters.{pair_at}
use Rattle.saftvrmie_parameters.specs.declared.SaftVRMiePars.{SaftVRMiePars}

-- `lower_integratal_limit` at a pair, reduced: 1; 2 for the temperature; 6
unfoldable pub radius_ij : SaftVRMiePars → ℕ → ℕ → Float → Ans Float
radius_ij s i j t =
    demand 1 (index_within s.count i j) >>= λ _.
    demand 2 (temperature_within t) >>= λ _.
    let p = pair_at s.sheets i j in
    lower_limit floats (calls floats port) p.la p.lr (c_eps_t floats t p.c p.epsilon_k)

-- a run of the diameter from a reduced r0: the set's numbers, the temperature and r0 are read as they are
abbrev pub diameter_run : (A : Arith) → Functions A.Num → SaftVRMiePars → ℕ → ℕ → Float → Float → Ans A.Num
diameter_run A F s i j t r0 =
    let p = pair_at s.sheets i j in
    diameter_from A F (A.lit p.la) (A.lit p.lr) (c_eps_t A (A.lit t) (A.lit p.c) (A.lit p.epsilon_k)) (A.lit p.sigma) (A.lit r0)

-- 1; 2 for the temperature; 6; 7 if the diameter is not finite, of any float run
abbrev pub diameter_ij_from : SaftVRMiePars → ℕ → ℕ → Float → Ans Float → Ans Float
diameter_ij_from s i j t run =
    demand 1 (index_within s.count i j) >>= λ _.
    demand 2 (temperature_within t) >>= λ _.
    run >>= λ d.
    demand 7 (finite d) >>= λ _.
    held d

-- whatever the elementary functions answer
unfoldable pub diameter_ij_by : Answers → SaftVRMiePars → ℕ → ℕ → Float → Float → Ans Float
diameter_ij_by E s i j t r0 = diameter_ij_from s i j t (diameter_run floats (calls floats E) s i j t r0)

abbrev pub diameter_ij : SaftVRMiePars → ℕ → ℕ → Float → Float → Ans Float
diameter_ij = diameter_ij_by port
