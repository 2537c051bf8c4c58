-- Document 01's limits of what is taken. Lists are read through functions: component i, pair (i, j).
use Rattle.std.specs.Prelude.{ℕ, ◌+◌, ◌*◌, eqb, leb, ltb, Float, List, Bool, false, not, ◌&&◌, cond}
use Rattle.std.specs.Float.Ieee.{neg, le, lt, eq, to_bits, is_nan}
use Rattle.std.specs.Float.{binary64}
use Rattle.std.specs.Float.Ieee.Scale.{finite}
use Rattle.number.specs.Ans.{Ans, ◌>>=◌, demand}
use Rattle.number.specs.Arith.{decimal}
use Rattle.number.specs.Lists.{at}
use Rattle.sizes.specs.Sizes.{side}
use Rattle.number.specs.Walk.{every}
use Rattle.limits.specs.declared.Component.{Component}

-- entry (i, j) of a list of n · n
abbrev pub square : ℕ → List Float → ℕ → ℕ → Float
square n l i j = at l (n * i + j)

-- component i of the four lists
abbrev pub components : List Float → List Float → List Float → List Float → ℕ → Component
components sigma epsilon_k lr la i = record { sigma = at sigma i; epsilon_k = at epsilon_k i; lr = at lr i; la = at la i }

-- ends belong, NaN never
unfoldable pub in_limits : Float → Float → Float → Bool
in_limits low high x = le low x && le x high

-- components 1 to 12
unfoldable pub count_within : ℕ → Bool
count_within n = leb 1 n && leb n side

-- 'a pair index outside the count is 1'
unfoldable pub index_within : ℕ → ℕ → ℕ → Bool
index_within n i j = count_within n && ltb i n && ltb j n

-- sigma 0.5 to 16 ångström; epsilon_k 0.1 to 5000 K; 3 < la < lr ≤ 64
unfoldable pub component_within : Component → Bool
component_within c =
    in_limits (decimal false 5 1) (decimal false 16 0) c.sigma
    && in_limits (decimal false 1 1) (decimal false 5000 0) c.epsilon_k
    && (lt (decimal false 3 0) c.la && lt c.la c.lr && le c.lr (decimal false 64 0))

unfoldable pub components_within : ℕ → (ℕ → Component) → Bool
components_within n c = every n (λ i. component_within (c i))

-- each number of a list between two limits: masses, m of VR Mie, mole fractions, densities
unfoldable pub all_within : Float → Float → ℕ → (ℕ → Float) → Bool
all_within low high n l = every n (λ i. in_limits low high (l i))

-- mass 1e-27 to 1e-23 kg
unfoldable pub masses_within : ℕ → (ℕ → Float) → Bool
masses_within n mass = all_within (decimal false 1 27) (decimal false 1 23) n mass

-- m of VR Mie 0.5 to 64
unfoldable pub segments_within : ℕ → (ℕ → Float) → Bool
segments_within n m = all_within (decimal false 5 1) (decimal false 64 0) n m

-- mole fractions and densities (per cubic ångström) 0 to 1
unfoldable pub shares_within : ℕ → (ℕ → Float) → Bool
shares_within n x = all_within (decimal false 0 0) (decimal false 1 0) n x

-- temperature 1 to 2000 K
unfoldable pub temperature_within : Float → Bool
temperature_within t = in_limits (decimal false 1 0) (decimal false 2000 0) t

-- an operation on a pair: 1 for the count and the indices; 2 for the temperature
unfoldable pub pair_asked : ℕ → ℕ → ℕ → Float → Ans Bool
pair_asked n i j t =
    demand 1 (index_within n i j) >>= λ _.
    demand 2 (temperature_within t)

-- what energies take beside a set: the temperature, mole fractions and densities
unfoldable pub state_within : ℕ → Float → List Float → List Float → Bool
state_within n t x rho = temperature_within t && shares_within n (at x) && shares_within n (at rho)

-- equal bits; a NaN has none that could be told
unfoldable pub same_bits : Float → Float → Bool
same_bits x y = not (is_nan x) && not (is_nan y) && eqb (to_bits binary64 x) (to_bits binary64 y)

-- pair values: +0 at (i, i); elsewhere −0.9 to 0.9, and equal bits at (i, j) and (j, i)
unfoldable pub pair_within : (ℕ → ℕ → Float) → ℕ → ℕ → Bool
pair_within k i j =
    cond (eqb i j) (same_bits (k i j) (decimal false 0 0))
    (in_limits (neg (decimal false 9 1)) (decimal false 9 1) (k i j) && same_bits (k i j) (k j i))

unfoldable pub pairs_within : ℕ → (ℕ → ℕ → Float) → Bool
pairs_within n k = every n (λ i. every n (λ j. pair_within k i j))

-- quantum: an m equal to 1.0, NaN never
abbrev pub is_one : Float → Bool
is_one m = eq m (decimal false 1 0)

unfoldable pub all_one : ℕ → (ℕ → Float) → Bool
all_one n m = every n (λ i. is_one (m i))

-- neither an infinity nor a NaN in a list
unfoldable pub all_finite : ℕ → (ℕ → Float) → Bool
all_finite n l = every n (λ i. finite (l i))
