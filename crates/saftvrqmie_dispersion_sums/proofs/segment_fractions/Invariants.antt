-- `saftvrqmie_dispersion_sums::segment_fractions` meets its contract. Assumes nothing.
use Prim.Native.Nat.{◌≤◌, ◌-◌}
use mathlib.Core.Bool.{true}
use mathlib.Core.Path.{◌≡◌}
use lib.ListN.{length, set}
use mathlib.Core.List.{map}
use Rattle.number.specs.Walk.{turns}
use Rattle.sizes.specs.Sizes.{side}
use Rattle.saftvrqmie_hard_sphere.specs.State.{points}
use Rattle.saftvrqmie_dispersion_sums.proofs.segment_fractions.Given as goal

abbrev pub invariant-loop-i : goal.invariant-loop-i
invariant-loop-i g l =
    let D = g.D.DualNum in
    let A = D.beside true in
    (l.i ≤ l.s.n) × (length l.initial.xs ≡ side) × (map (D.of true) l.xs ≡ turns l.i (λ i ys. set ys i (A.mul (A.mul (D.entry_of true l.s.fractions.values.now l.s.fractions.slopes.now i) (points A l.s.m.now i)) (D.of true l.inv))) (map (D.of true) l.initial.xs))

abbrev pub decreases-loop-i : goal.decreases-loop-i
decreases-loop-i g l = l.s.n - l.i
