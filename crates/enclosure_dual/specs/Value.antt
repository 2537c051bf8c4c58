-- The pair that the code's struct holds, and the ends of a product with +0.
use Rattle.std.specs.Prelude.{Bool}
use Rattle.std.specs.Float.{binary64}
use Rattle.std.specs.Float.Ieee.{of_bits}
use Rattle.interval.specs.declared.Interval.{Interval}
use Rattle.enclosure.specs.declared.Enclosure.{Enclosure}
use Rattle.dual.specs.Dual.{DualOf}
use Rattle.enclosure_dual.specs.declared.EnclosureDual.{EnclosureDual}

unfoldable pub dual_of : EnclosureDual → DualOf Enclosure
dual_of x = record { re = x.re; eps = x.eps }

-- the floats next to zero
unfoldable pub about_zero : Bool → Interval
about_zero g = record { lower = of_bits binary64 0x8000_0000_0000_0001; upper = of_bits binary64 1; sound = g }
