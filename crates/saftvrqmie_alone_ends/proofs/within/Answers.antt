-- `saftvrqmie_alone_ends::within` meets its contract. Assumes nothing.
use mathlib.Core.Path.{◌≡◌, ◌∙◌}
use mathlib.Core.Bool.{true, ◌&&◌, and-true}
use lib.Ieee.{Float, binary64, fits, le, neg}
use Rattle.saftvrqmie_alone_ends.specs.Alone.{big, within_of}
use Rattle.saftvrqmie_alone_ends.proofs.within.Goals as goal

-- every f64 fits
within_is : (a : Float) → fits binary64 a ≡ true → (le (neg big) a && le a big) ≡ within_of a
unfolding within_of
within_is a h = rw (h, and-true (le (neg big) a && le a big))

pub returns : goal.returns
returns c = c.within.ensures ∙ within_is _ c.well_formed.0.1
