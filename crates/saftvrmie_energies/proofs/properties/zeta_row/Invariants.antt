-- `saftvrmie_energies::properties::zeta_row` meets its contract. Assumes nothing.
use Prim.Native.Nat.{ℕ, ◌≤◌, ◌-◌, ◌+◌}
use mathlib.Core.Path.{◌≡◌}
use mathlib.Core.Bool.{Bool}
use Rattle.number.specs.Walk.{turns}
use Rattle.saftvrmie_energies.specs.Reads.{read, Cubes}
use Rattle.saftvrmie_energies.specs.Properties.{zeta_turn}
use Rattle.saftvrmie_energies.proofs.properties.zeta_row.Given as goal

abbrev pub invariant-loop-j : goal.invariant-loop-j
invariant-loop-j g l =
    (l.i + 1 ≤ l.j) × (l.j ≤ l.n) × ((w : Bool) (c : ℕ → ℕ → (g.D.DualNum.beside w).Num) → let D = g.D.DualNum in let A = D.beside w in Cubes l.n (D.of w) (goal.F-post g l.cube) c → D.of w l.s ≡ turns (l.j - (l.i + 1)) (zeta_turn A l.n (read A (D.of w) l.xs) c l.i) (D.of w l.initial.s))

abbrev pub decreases-loop-j : goal.decreases-loop-j
decreases-loop-j g l = l.n - l.j
