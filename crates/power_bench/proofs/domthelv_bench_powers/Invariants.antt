-- `power_bench::domthelv_bench_powers` meets its contract. Assumes nothing.
use mathlib.Core.Path.{◌≡◌}
use Prim.Native.Nat.{ℕ, ◌≤◌, ◌-◌}
use Rattle.number.specs.Walk.{turns}
use Rattle.number.specs.Lists.{at}
use lib.Ieee.{Float}
use Rattle.number.specs.Arith.{floats, zero64}
use Rattle.power.specs.Power.{exponent_of, power_of}
use Rattle.power_bench.proofs.domthelv_bench_powers.Given as goal

abbrev pub invariant-loop-y : goal.invariant-loop-y
invariant-loop-y l = (l.y-index ≤ 14) × (l.s ≡ turns l.y-index (λ (k : ℕ) (z : Float). floats.add z (power_of l.log (exponent_of (at l.exponents k)))) zero64)

abbrev pub decreases-loop-y : goal.decreases-loop-y
decreases-loop-y l = 14 - l.y-index
