-- `interval_bench::domthelv_bench_interval` meets its contract. Assumes nothing.
use Rattle.number.specs.Walk.{turns}
use Prim.Native.Nat.{ℕ, ◌≤◌, ◌-◌}
use mathlib.Core.Path.{◌≡◌}
use Rattle.interval_bench.specs.Repeat.{interval_step}
use Rattle.interval.specs.declared.Interval.{Interval}
use Rattle.interval_bench.proofs.domthelv_bench_interval.Given as goal

abbrev pub invariant-loop : goal.invariant-loop
invariant-loop l = (l.counter ≤ l.n) × (l.s ≡ turns l.counter (λ (k : ℕ) (z : Interval). interval_step l.operation z l.step) l.initial.s)

abbrev pub decreases-loop : goal.decreases-loop
decreases-loop l = l.n - l.counter
