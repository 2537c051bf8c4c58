-- A point, as the code makes it. Assumes nothing.
use mathlib.Core.Path.{◌≡◌}
use mathlib.Core.Bool.{Bool, true, and-true}
use lib.Ieee.{Float, binary64, fits}
use lib.Ieee.Scale.{finite}
use Rattle.interval.specs.declared.Interval.{Interval}
use Rattle.interval.specs.Interval.{point}

-- every f64 of the code fits the format: `point` needs to test finiteness only
pub point_is : (x : Float) (g : Bool) → g ≡ finite x → fits binary64 x ≡ true → ◌≡◌ {A = Interval} (record { lower = x; upper = x; sound = g }) (point x)
unfolding point
point_is x g e h = rw (h, and-true (finite x), e)
