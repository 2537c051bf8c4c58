-- The pair that the code's struct holds.
use Rattle.std.specs.Prelude.{Float}
use Rattle.dual.specs.declared.Dual.{Dual}
use Rattle.dual.specs.Dual.{DualOf}

unfoldable pub dual_of : Dual → DualOf Float
dual_of x = record { re = x.re; eps = x.eps }
