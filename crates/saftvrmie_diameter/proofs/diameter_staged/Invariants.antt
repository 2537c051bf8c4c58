-- `saftvrmie_diameter::diameter_staged` meets its contract. Assumes nothing.
use Prim.Native.Nat.{◌≤◌, ◌-◌}
use mathlib.Core.Bool.{Bool}
use mathlib.Core.Path.{◌≡◌}
use Rattle.number.specs.Ans.{held}
use Rattle.number.specs.Walk.{walk}
use Rattle.saftvrmie_diameter.specs.Diameter.{node_turn}
use Rattle.saftvrmie_diameter.proofs.diameter_staged.Given as goal

abbrev pub invariant-loop-k : goal.invariant-loop-k
invariant-loop-k g l =
    (l.k ≤ 10) × ((w : Bool) → let D = g.D.DualNum in
    held (D.of w l.d) ≡ walk l.k (node_turn (D.beside w) (D.functions w) (D.plain w l.fn.la) (D.plain w l.fn.lr) (D.of w l.fn.c_eps_t) (D.of w l.r0)) (D.of w l.r0))

abbrev pub decreases-loop-k : goal.decreases-loop-k
decreases-loop-k g l = 10 - l.k
