-- `saftvrmie_diameter::betas_of` meets its contract. Assumes nothing.
use Prim.Native.Nat.{ℕ, ◌<◌, ◌≤◌, ◌-◌}
use lib.ListN.{get_or}
use mathlib.Core.Bool.{Bool}
use mathlib.Core.Path.{◌≡◌}
use Rattle.saftvrmie_diameter.specs.Diameter.{beta_u_from}
use Rattle.saftvrmie_diameter.proofs.betas_of.Given as goal

abbrev pub invariant-loop-k : goal.invariant-loop-k
invariant-loop-k g l =
    (l.k ≤ 10) × ((w : Bool) (j : ℕ) (u : _) → j < l.k → let D = g.D.DualNum in (b : _)
    → D.of w (get_or l.betas j u) ≡ beta_u_from (D.beside w) (D.raised w (get_or l.bases j b) l.e.lr) (D.raised w (get_or l.bases j b) l.e.la) (D.of w l.c_eps_t))

abbrev pub decreases-loop-k : goal.decreases-loop-k
decreases-loop-k g l = 10 - l.k
