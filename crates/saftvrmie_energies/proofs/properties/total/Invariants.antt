-- `saftvrmie_energies::properties::total` meets its contract. Assumes nothing.
use Prim.Native.Nat.{◌≤◌, ◌-◌}
use lib.ListN.{length}
use mathlib.Core.Path.{◌≡◌}
use mathlib.Core.Bool.{Bool}
use Rattle.number.specs.Walk.{turns}
use Rattle.number.specs.Arith.{zero64}
use Rattle.saftvrmie_energies.specs.Reads.{entries}
use Rattle.saftvrmie_energies.proofs.properties.total.Given as goal

abbrev pub invariant-loop-x : goal.invariant-loop-x
invariant-loop-x g l =
    (l.x-index ≤ length l.v) × ((w : Bool) → let D = g.D.DualNum in let A = D.beside w in D.of w l.s ≡ turns l.x-index (λ i s. A.add s (entries A l.v i)) (A.lit zero64))

abbrev pub decreases-loop-x : goal.decreases-loop-x
decreases-loop-x g l = length l.v - l.x-index
