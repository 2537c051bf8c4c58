-- `saftvrmie_diameter::bases_of` meets its contract. Assumes nothing.
use Prim.Native.Nat.{ℕ, ◌<◌, ◌≤◌, ◌-◌}
use lib.ListN.{get_or}
use mathlib.Core.Bool.{Bool}
use mathlib.Core.Path.{◌≡◌}
use Rattle.saftvrmie_diameter.specs.Staged.{inverse_at}
use Rattle.saftvrmie_diameter.proofs.bases_of.Given as goal

abbrev pub invariant-loop-k : goal.invariant-loop-k
invariant-loop-k g l =
    (l.k ≤ 10) × ((w : Bool) (j : ℕ) (b : _) → j < l.k → let D = g.D.DualNum in D.power_at w (get_or l.bases j b) ≡ (D.functions w).powf (inverse_at (D.beside w) (D.functions w) (D.of w l.r0) j))

abbrev pub decreases-loop-k : goal.decreases-loop-k
decreases-loop-k g l = 10 - l.k
