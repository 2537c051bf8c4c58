-- `saftvrqmie_hard_sphere::non_additive_hs::density_shares` meets its contract. Assumes nothing.
use Prim.Native.Nat.{◌≤◌, ◌-◌}
use lib.ListN.{length, set}
use mathlib.Core.Bool.{Bool}
use mathlib.Core.List.{map}
use mathlib.Core.Path.{◌≡◌}
use Rattle.number.specs.Walk.{turns}
use Rattle.sizes.specs.Sizes.{side}
use Rattle.saftvrqmie_hard_sphere.specs.State.{points}
use Rattle.saftvrqmie_hard_sphere.proofs.non_additive_hs.density_shares.Given as goal

abbrev pub invariant-loop-i : goal.invariant-loop-i
invariant-loop-i g l =
    (l.i ≤ l.s.n) × (length l.initial.xs ≡ side) × ((w : Bool) → let D = g.D.DualNum in
    let A = D.beside w in
    map (D.of w) l.xs ≡ turns l.i (λ i ys. set ys i (A.div (A.mul (D.entry_of w l.s.densities.values.now l.s.densities.slopes.now i) (points A l.s.m.now i)) (D.of w l.rho_s))) (map (D.of w) l.initial.xs))

abbrev pub decreases-loop-i : goal.decreases-loop-i
decreases-loop-i g l = l.s.n - l.i
