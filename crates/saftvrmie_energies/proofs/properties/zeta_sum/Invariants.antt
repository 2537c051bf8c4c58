-- `saftvrmie_energies::properties::zeta_sum` meets its contract. Assumes nothing.
use Prim.Native.Nat.{ℕ, ◌≤◌, ◌-◌}
use mathlib.Core.Path.{◌≡◌}
use mathlib.Core.Bool.{Bool}
use Rattle.number.specs.Walk.{turns}
use Rattle.number.specs.Arith.{zero64}
use Rattle.saftvrmie_energies.specs.Reads.{read, Cubes}
use Rattle.saftvrmie_energies.specs.Properties.{zeta_row}
use Rattle.saftvrmie_energies.proofs.properties.zeta_sum.Given as goal

abbrev pub invariant-loop-i : goal.invariant-loop-i
invariant-loop-i g l =
    (l.i ≤ l.n) × ((w : Bool) (c : ℕ → ℕ → (g.D.DualNum.beside w).Num) → let D = g.D.DualNum in let A = D.beside w in Cubes l.n (D.of w) (goal.F-post g l.cube) c → D.of w l.s ≡ turns l.i (zeta_row A l.n (read A (D.of w) l.xs) c) (A.lit zero64))

abbrev pub decreases-loop-i : goal.decreases-loop-i
decreases-loop-i g l = l.n - l.i
