-- What the benchmark works: the sum of fourteen powers of one base.
use Rattle.std.specs.Prelude.{Float, List}
use Rattle.number.specs.Arith.{floats, zero64}
use Rattle.number.specs.Lists.{at}
use Rattle.number.specs.Walk.{turns}
use Rattle.binary_log.specs.BinaryLog.{log_of}
use Rattle.power.specs.Power.{exponent_of, power_of}

unfoldable pub fourteen_powers : Float → List Float → Float
fourteen_powers x l = turns 14 (λ i s. floats.add s (power_of (log_of x) (exponent_of (at l i)))) zero64
