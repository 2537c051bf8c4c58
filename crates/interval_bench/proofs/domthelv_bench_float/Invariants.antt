-- `interval_bench::domthelv_bench_float` meets its contract. Assumes nothing.
use Rattle.number.specs.Walk.{turns}
use Prim.Native.Nat.{ℕ, ◌≤◌, ◌-◌}
use mathlib.Core.Path.{◌≡◌}
use Rattle.interval_bench.specs.Repeat.{float_step}
use lib.Ieee.{Float}
use Rattle.interval_bench.proofs.domthelv_bench_float.Given as goal

abbrev pub invariant-loop : goal.invariant-loop
invariant-loop l = (l.counter ≤ l.n) × (l.s ≡ turns l.counter (λ (k : ℕ) (z : Float). float_step l.operation z l.y) l.x)

abbrev pub decreases-loop : goal.decreases-loop
decreases-loop l = l.n - l.counter
