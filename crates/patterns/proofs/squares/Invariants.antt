-- `patterns::squares` meets its contract. Assumes nothing.
use Rattle.patterns.specs.Formulas.{squares}
use Rattle.number.specs.Lists.{at}
use lib.ListN.{length}
use mathlib.Core.Bool.{Bool}
use mathlib.Core.Path.{◌≡◌}
use Prim.Native.Nat.{◌≤◌, ◌-◌}
use Rattle.patterns.proofs.squares.Given as goal

abbrev pub invariant-loop-x : goal.invariant-loop-x
invariant-loop-x g l =
    let D = g.D.DualNum in
    (l.x-index ≤ length l.xs) × ((w : Bool) → D.of w l.s ≡ squares (D.beside w) l.x-index (λ j. (D.beside w).lit (at l.xs j)))

abbrev pub decreases-loop-x : goal.decreases-loop-x
decreases-loop-x g l = length l.xs - l.x-index
