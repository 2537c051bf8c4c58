-- `saftvrqmie_alone_ends::from_one` meets its contract. Assumes nothing.
use mathlib.Core.Path.{◌≡◌}
use mathlib.Core.Bool.{true, and-true}
use lib.Ieee.{Float, binary64, fits, le}
use Rattle.number.specs.Arith.{one64}
use Rattle.saftvrqmie_alone_ends.specs.Alone.{from_one}
use Rattle.saftvrqmie_alone_ends.proofs.from_one.Goals as goal

-- every f64 fits
from_is : (a : Float) → fits binary64 a ≡ true → le one64 a ≡ from_one a
unfolding from_one
from_is a h = rw (h, and-true (le one64 a))

pub returns : goal.returns
returns c = from_is _ c.well_formed.0.1
