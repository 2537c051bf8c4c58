-- The diameters of the components, as an operation: `hs_diameter` of saftvrmie/parameters.rs.
use Rattle.std.specs.Prelude.{ℕ, eqb, Float, length, set, replicate, List, Bool, ◌&&◌}
use Rattle.std.specs.Float.Ieee.Scale.{finite}
use Rattle.number.specs.Ans.{Ans, held, ◌>>=◌, demand}
use Rattle.number.specs.Arith.{floats, zero64}
use Rattle.number.specs.Functions.{calls}
use Rattle.number.specs.Lists.{at}
use Rattle.sizes.specs.Sizes.{side}
use Rattle.number.specs.Walk.{filled, every, walk}
use Rattle.elementary.specs.Port.{port}
use Rattle.limits.specs.Limits.{count_within, temperature_within}
use Rattle.saftvrmie_parameters.specs.Parameters.{pair_at}
use Rattle.saftvrmie_diameter.specs.Diameter.{hs_diameter}

-- diameters are read from the sheets' diagonal
unfoldable pub diameter_at : List Float → Float → ℕ → Ans Float
diameter_at sheets t i =
    let p = pair_at sheets i i in
    hs_diameter floats (calls floats port) p.la p.lr p.c p.epsilon_k p.sigma t

-- component i, and all of them in order, in eight places
unfoldable pub diameter_turn : List Float → Float → ℕ → List Float → Ans (List Float)
diameter_turn sheets t i l = diameter_at sheets t i >>= λ d. held (set l i d)

unfoldable pub worked : ℕ → List Float → Float → Ans (List Float)
worked n sheets t = walk n (diameter_turn sheets t) (replicate side zero64)

-- 7: a diameter is not finite
unfoldable pub diameters_finite : ℕ → List Float → Bool
diameters_finite n l = every n (λ i. finite (at l i))

-- 1: the count, or a list of `len` places that is not as long as it
unfoldable pub right_length : ℕ → ℕ → Bool
right_length n len = count_within n && eqb len n

-- 1; 2 for the temperature; 6 at any component; then 7 if a diameter is not finite; what is held is the lent list afterwards
unfoldable pub diameters : ℕ → List Float → Float → List Float → Ans (List Float)
diameters n sheets t l =
    demand 1 (right_length n (length l)) >>= λ _.
    demand 2 (temperature_within t) >>= λ _.
    worked n sheets t >>= λ d.
    demand 7 (diameters_finite n d) >>= λ _.
    held (filled n (at d) l)
