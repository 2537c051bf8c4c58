-- `saftvrmie_energies::properties::weighted` meets its contract. Assumes nothing.
use Prim.Native.Nat.{◌≤◌, ◌-◌}
use lib.ListN.{length}
use mathlib.Core.Path.{◌≡◌}
use mathlib.Core.Bool.{Bool}
use Rattle.number.specs.Walk.{turns}
use Rattle.number.specs.Arith.{zero64}
use Rattle.saftvrmie_energies.specs.Reads.{entries}
use Rattle.saftvrmie_energies.proofs.properties.weighted.Given as goal

abbrev pub invariant-loop-i : goal.invariant-loop-i
invariant-loop-i g l =
    (l.i ≤ length l.v) × ((w : Bool) → let D = g.D.DualNum in let A = D.beside w in D.of w l.s ≡ turns l.i (λ i s. A.add s (A.mul (entries A l.v i) (entries A l.m i))) (A.lit zero64))

abbrev pub decreases-loop-i : goal.decreases-loop-i
decreases-loop-i g l = length l.v - l.i
