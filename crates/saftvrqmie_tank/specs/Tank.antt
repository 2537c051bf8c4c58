-- Slip 10: the energies of a tank at rest, in layers listed from the bottom up over one quantum set.
use Rattle.std.specs.Prelude.{ℕ, ◌*◌, eqb, leb, Float, length, take, drop, List, Bool, false, ◌&&◌, cond}
use Rattle.std.specs.Float.Ieee.{le, lt}
use Rattle.number.specs.Ans.{Ans, held, ◌>>=◌, demand}
use Rattle.number.specs.Arith.{Arith, floats, decimal, zero64}
use Rattle.number.specs.Functions.{Functions, Answers, calls}
use Rattle.number.specs.Lists.{at}
use Rattle.number.specs.Walk.{walk}
use Rattle.elementary.specs.Port.{port}
use Rattle.limits.specs.Limits.{count_within, state_within}
use Rattle.saftvrqmie_parameters.specs.declared.SaftVRQMiePars.{SaftVRQMiePars}
use Rattle.saftvrqmie.specs.Table.{blank, temperature_table}
use Rattle.saftvrqmie_energies.specs.Energies.{EnergiesIn, each_in, contributions_of, energies_finite, energies_from}
use Rattle.saftvrqmie_tank.specs.declared.Layer.{Layer as LentLayer}
use Rattle.saftvrqmie_tank.specs.declared.Layers.{Layers}

-- 'Take 1 to 32 layers'
abbrev pub most_layers : ℕ
most_layers = 32

-- how many layers, and their lists, from the bottom up: a temperature and a volume each, a fraction and a density for each component
pub record TankLists : Type 0 where
  pub layers : ℕ
  pub temperatures : List Float
  pub fractions : List Float
  pub densities : List Float
  pub volumes : List Float

abbrev pub lists_of : Layers → TankLists
lists_of q =
    record {
      layers = q.layers;
      temperatures = q.temperatures.now;
      fractions = q.fractions.now;
      densities = q.densities.now;
      volumes = q.volumes.now;
    }

-- 'each with its temperature, densities, fractions and volume'
pub record Layer : Type 0 where
  pub temperature : Float
  pub fractions : List Float
  pub densities : List Float
  pub volume : Float

abbrev pub layer_in : LentLayer → Layer
layer_in y = record { temperature = y.temperature; fractions = y.fractions.now; densities = y.densities.now; volume = y.volume }

-- what a list has for layer l, of n components
abbrev pub share_of : ℕ → ℕ → List Float → List Float
share_of n l d = take n (drop (n * l) d)

unfoldable pub layer_at : ℕ → TankLists → ℕ → Layer
layer_at n q l =
    record {
      temperature = at q.temperatures l;
      fractions = share_of n l q.fractions;
      densities = share_of n l q.densities;
      volume = at q.volumes l;
    }

-- 14: 'A layer count outside 1 to 32'
unfoldable pub layers_within : ℕ → Bool
layers_within k = leb 1 k && leb k most_layers

-- 1: the count, or a list of another length
unfoldable pub tank_lengths : ℕ → TankLists → Bool
tank_lengths n q =
    count_within n && eqb (length q.temperatures) q.layers
    && eqb (length q.fractions) (n * q.layers)
    && eqb (length q.densities) (n * q.layers)
    && eqb (length q.volumes) q.layers

-- 'volume (above 0, at most 1e30 cubic ångström)'
unfoldable pub volume_within : Float → Bool
volume_within v = lt (decimal false 0 0) v && le v (decimal false 1000000000000000000000000000000 0)

-- 2: the layer's temperature, fractions, densities and volume
unfoldable pub layer_within : ℕ → Layer → Bool
layer_within n y = state_within n y.temperature y.fractions y.densities && volume_within y.volume

-- ---- the sum, in any run
module _ (A : Arith) where
  open A use {Num, add, mul, lit}

  -- 'multiplied by volume and by the layer's temperature, in that order, added from the bottom up'
  unfoldable pub piled : Float → Float → Num → Num → Num
  piled v t e below = add below (mul (mul e (lit v)) (lit t))

  -- all three; a non-additive part that is not wanted is +0, and nothing of it is worked
  unfoldable pub layer_piled : Bool → Float → Float → EnergiesIn Num → EnergiesIn Num → EnergiesIn Num
  layer_piled wanted v t e below =
      record {
        hard_sphere = piled v t e.hard_sphere below.hard_sphere;
        dispersion = piled v t e.dispersion below.dispersion;
        non_additive = cond wanted (piled v t e.non_additive below.non_additive) (lit zero64);
      }

  -- 'from +0'
  abbrev pub bottom : EnergiesIn Num
  bottom = record { hard_sphere = lit zero64; dispersion = lit zero64; non_additive = lit zero64 }

  -- from what each layer answers; the first that is refused is the answer
  unfoldable pub tank_sum : TankLists → Bool → (ℕ → Ans (EnergiesIn Num)) → Ans (EnergiesIn Num)
  tank_sum q wanted answers = walk q.layers (λ l below. answers l >>= λ e. held (layer_piled wanted (at q.volumes l) (at q.temperatures l) e below)) bottom

  -- a layer in a run, from its table; and the tank, from runs of its layers
  abbrev pub layer_run : Functions Num → SaftVRQMiePars → Layer → Bool → List Float → Ans (EnergiesIn Num)
  layer_run F s y wanted table = contributions_of A F s y.temperature y.fractions y.densities table wanted

  abbrev pub tank_run : TankLists → (ℕ → Ans (List Float)) → Bool → (ℕ → List Float → Ans (EnergiesIn Num)) → Ans (EnergiesIn Num)
  tank_run q tables wanted run = tank_sum q wanted (λ l. tables l >>= run l)

-- ---- the operation, of any tables and any float runs of the layers
-- 'Each layer's energies are those of its own table and a single call': 'tests for 2 all go before its table'
unfoldable pub layer_from : SaftVRQMiePars → Layer → Ans (List Float) → (List Float → Ans (EnergiesIn Float)) → Ans (EnergiesIn Float)
layer_from s y tabled run =
    demand 2 (layer_within s.count y) >>= λ _.
    tabled >>= λ table.
    energies_from s y.temperature y.fractions y.densities table (run table)

-- 'The first refused layer refuses the tank with that layer's number.'
abbrev pub layers_from : SaftVRQMiePars → TankLists → (ℕ → Ans (List Float)) → Bool → (ℕ → List Float → Ans (EnergiesIn Float)) → Ans (EnergiesIn Float)
layers_from s q tables wanted run = tank_sum floats q wanted (λ l. layer_from s (layer_at s.count q l) (tables l) (run l))

-- 'A layer count outside 1 to 32 is 14 and is tested first, then 1'; 'a tank energy that is not finite is 7, after all layers'
unfoldable pub tank_from : SaftVRQMiePars → TankLists → (ℕ → Ans (List Float)) → Bool → (ℕ → List Float → Ans (EnergiesIn Float)) → Ans (EnergiesIn Float)
tank_from s q tables wanted run =
    demand 14 (layers_within q.layers) >>= λ _.
    demand 1 (tank_lengths s.count q) >>= λ _.
    layers_from s q tables wanted run >>= λ e.
    demand 7 (energies_finite e) >>= λ _.
    held e

-- ---- the port's
-- a layer's own table: that of its temperature
unfoldable pub table_of : SaftVRQMiePars → Layer → Ans (List Float)
table_of s y = temperature_table s y.temperature blank >>= λ w. held w.values

abbrev pub tables_of : SaftVRQMiePars → TankLists → ℕ → Ans (List Float)
tables_of s q l = table_of s (layer_at s.count q l)

-- runs of the layers with the answers E
abbrev pub runs_by : (A : Arith) → Answers → SaftVRQMiePars → TankLists → Bool → ℕ → List Float → Ans (EnergiesIn A.Num)
runs_by A E s q wanted l = layer_run A (calls A E) s (layer_at s.count q l) wanted

abbrev pub layer_of : SaftVRQMiePars → Layer → Bool → Ans (EnergiesIn Float)
layer_of s y wanted = layer_from s y (table_of s y) (layer_run floats (calls floats port) s y wanted)

abbrev pub layers_of : SaftVRQMiePars → TankLists → Bool → Ans (EnergiesIn Float)
layers_of s q wanted = layers_from s q (tables_of s q) wanted (runs_by floats port s q wanted)

abbrev pub tank : SaftVRQMiePars → TankLists → Bool → Ans (EnergiesIn Float)
tank s q wanted = tank_from s q (tables_of s q) wanted (runs_by floats port s q wanted)

-- ---- for the contracts of helpers alone: any run behind the float operation, whose refusals go first
abbrev pub behind : {N : Type 0} → Ans (EnergiesIn Float) → Ans (EnergiesIn N) → Ans (EnergiesIn N)
behind float run = float >>= λ _. run

unfoldable pub layer_answer : (A : Arith) → SaftVRQMiePars → Layer → Bool → Ans (EnergiesIn A.Num)
layer_answer A s y wanted = behind (layer_of s y wanted) (table_of s y >>= layer_run A (calls A port) s y wanted)

abbrev pub layers_answer : (A : Arith) → SaftVRQMiePars → TankLists → Bool → Ans (EnergiesIn A.Num)
layers_answer A s q wanted = tank_sum A q wanted (λ l. layer_answer A s (layer_at s.count q l) wanted)

-- of any run: 7 looks at the float run's values
unfoldable pub tank_answer : (A : Arith) → SaftVRQMiePars → TankLists → Bool → Ans (EnergiesIn A.Num)
tank_answer A s q wanted =
    demand 14 (layers_within q.layers) >>= λ _.
    demand 1 (tank_lengths s.count q) >>= λ _.
    layers_answer A s q wanted >>= λ e.
    demand 7 (energies_finite (each_in A.val e)) >>= λ _.
    held e
