-- `saftvrqmie_tank::layers_of` meets its contract. Assumes nothing.
use Rattle.saftvrqmie_tank.proofs.Ways.{answers_in, turn}
use Prim.Native.Nat.{◌≤◌, ◌-◌}
use mathlib.Core.Bool.{true}
use mathlib.Core.Path.{◌≡◌}
use Rattle.number.specs.Ans.{held}
use Rattle.number.specs.Walk.{walk}
use Rattle.saftvrqmie_energies.specs.Energies.{each_by}
use Rattle.saftvrqmie_tank.specs.Tank.{bottom, lists_of}
use Rattle.saftvrqmie_tank.proofs.layers_of.Given as goal

abbrev pub invariant-loop-l : goal.invariant-loop-l
invariant-loop-l g l =
    let D = g.D.DualNum in
    let A = D.beside true in
    (l.l ≤ l.q.layers) × (held (each_by (D.of true) l.below) ≡ walk l.l (turn A (lists_of l.q) l.q.non_additive (answers_in A l.set (lists_of l.q) l.q.non_additive)) (bottom A))

abbrev pub decreases-loop-l : goal.decreases-loop-l
decreases-loop-l g l = l.q.layers - l.l
