-- `saftvrmie_energies::properties::after_row` meets its contract. Assumes nothing.
use Prim.Native.Nat.{◌≤◌, ◌-◌}
use mathlib.Core.Path.{◌≡◌}
use mathlib.Core.Bool.{Bool}
use Rattle.number.specs.Walk.{turns}
use Rattle.saftvrmie_energies.specs.Reads.{entries}
use Rattle.saftvrmie_energies.specs.Properties.{d3_ij}
use Rattle.saftvrmie_energies.proofs.properties.after_row.Given as goal

abbrev pub invariant-loop-j : goal.invariant-loop-j
invariant-loop-j g l =
    (l.j ≤ l.i) × ((w : Bool) → let D = g.D.DualNum in let A = D.beside w in D.of w l.s ≡ turns l.j (λ j r. A.after (d3_ij A (entries A l.d) l.i j) r) (D.of w l.initial.s))

abbrev pub decreases-loop-j : goal.decreases-loop-j
decreases-loop-j g l = l.i - l.j
