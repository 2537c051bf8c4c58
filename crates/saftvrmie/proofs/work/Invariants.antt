-- `saftvrmie::work` meets its contract. Assumes nothing.
use Rattle.saftvrmie.specs.Diameters.{diameter_turn}
use mathlib.Core.Path.{◌≡◌}
use Prim.Native.Nat.{◌≤◌, ◌-◌}
use Rattle.number.specs.Ans.{held}
use Rattle.number.specs.Walk.{walk}
use Rattle.saftvrmie.proofs.work.Given as goal

abbrev pub invariant-loop-i : goal.invariant-loop-i
invariant-loop-i l = (l.i ≤ l.n) × (held l.d ≡ walk l.i (diameter_turn l.sheets l.temperature) l.initial.d)

abbrev pub decreases-loop-i : goal.decreases-loop-i
decreases-loop-i l = l.n - l.i
