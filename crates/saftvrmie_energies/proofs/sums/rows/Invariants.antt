-- `saftvrmie_energies::sums::rows` meets its contract. Assumes nothing.
use Prim.Native.Nat.{ℕ, ◌≤◌, ◌-◌}
use mathlib.Core.Path.{◌≡◌}
use mathlib.Core.Bool.{Bool}
use Rattle.number.specs.Walk.{walk}
use Rattle.number.specs.Ans.{Ans, held}
use Rattle.saftvrmie_dispersion.specs.Terms.{SumsIn}
use Rattle.saftvrmie_dispersion.specs.Answer.{sums_by}
use Rattle.saftvrmie_energies.specs.Reads.{Rows}
use Rattle.saftvrmie_energies.specs.Dispersion.{no_sums}
use Rattle.saftvrmie_energies.proofs.sums.rows.Given as goal

abbrev pub invariant-loop-i : goal.invariant-loop-i
invariant-loop-i g l =
    let D = g.D.DualNum in
    (l.i ≤ l.n) × ((w : Bool) (f : ℕ → SumsIn (D.beside w).Num → Ans (SumsIn (D.beside w).Num)) → Rows l.n (sums_by (D.of w)) (goal.F-post g l.row) f → held (sums_by (D.of w) l.sum) ≡ walk l.i f (no_sums (D.beside w) (D.functions w)))

abbrev pub decreases-loop-i : goal.decreases-loop-i
decreases-loop-i g l = l.n - l.i
