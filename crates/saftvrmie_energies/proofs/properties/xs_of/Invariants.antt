-- `saftvrmie_energies::properties::xs_of` meets its contract. Assumes nothing.
use Prim.Native.Nat.{◌≤◌, ◌-◌}
use mathlib.Core.Path.{◌≡◌}
use mathlib.Core.Bool.{Bool}
use Rattle.number.specs.Walk.{turns}
use Rattle.number.specs.Arith.{zero64}
use Rattle.sizes.specs.Sizes.{side}
use lib.ListN.{length, set, replicate}
use mathlib.Core.List.{map}
use Rattle.saftvrmie_energies.specs.Reads.{entries}
use Rattle.saftvrmie_energies.proofs.properties.xs_of.Given as goal

abbrev pub invariant-loop-i : goal.invariant-loop-i
invariant-loop-i g l =
    (l.i ≤ length l.x) × ((w : Bool) → let D = g.D.DualNum in let A = D.beside w in map (D.of w) l.xs ≡ turns l.i (λ i ys. set ys i (A.div (A.mul (entries A l.x i) (entries A l.m i)) (D.of w l.mean))) (replicate side (A.lit zero64)))

abbrev pub decreases-loop-i : goal.decreases-loop-i
decreases-loop-i g l = length l.x - l.i
