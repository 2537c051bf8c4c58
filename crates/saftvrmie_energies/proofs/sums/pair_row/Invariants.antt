-- `saftvrmie_energies::sums::pair_row` meets its contract. Assumes nothing.
use Prim.Native.Nat.{◌≤◌, ◌-◌, ◌+◌}
use mathlib.Core.Path.{◌≡◌}
use mathlib.Core.Bool.{Bool}
use Rattle.number.specs.Walk.{walk}
use Rattle.number.specs.Ans.{held}
use Rattle.saftvrmie_dispersion.specs.Answer.{bar_by, sums_by}
use Rattle.saftvrmie_energies.specs.Sums.{turn_of}
use Rattle.saftvrmie_energies.proofs.sums.pair_row.Given as goal

abbrev pub invariant-loop-j : goal.invariant-loop-j
invariant-loop-j g l =
    (l.i + 1 ≤ l.j) × (l.j ≤ l.m.state.now.set.count) × ((w : Bool) → let D = g.D.DualNum in held (sums_by (D.of w) l.sum) ≡ walk (l.j - (l.i + 1)) (λ k. turn_of (D.beside w) (D.functions w) (D.of w) l.m (bar_by (D.of w) l.bar) l.i (l.i + 1 + k)) (sums_by (D.of w) l.initial.sum))

abbrev pub decreases-loop-j : goal.decreases-loop-j
decreases-loop-j g l = l.m.state.now.set.count - l.j
