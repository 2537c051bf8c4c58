-- `saftvrmie_energies::properties::after_lower` meets its contract. Assumes nothing.
use Prim.Native.Nat.{◌≤◌, ◌-◌}
use mathlib.Core.Path.{◌≡◌}
use mathlib.Core.Bool.{Bool}
use Rattle.number.specs.Walk.{turns}
use Rattle.saftvrmie_energies.specs.Reads.{entries}
use Rattle.saftvrmie_energies.specs.Properties.{d3_ij}
use Rattle.saftvrmie_energies.proofs.properties.after_lower.Given as goal

abbrev pub invariant-loop-i : goal.invariant-loop-i
invariant-loop-i g l =
    (l.i ≤ l.n) × ((w : Bool) → let D = g.D.DualNum in let A = D.beside w in D.of w l.s ≡ turns l.i (λ i s. turns i (λ j r. A.after (d3_ij A (entries A l.d) i j) r) s) (D.of w l.initial.s))

abbrev pub decreases-loop-i : goal.decreases-loop-i
decreases-loop-i g l = l.n - l.i
