-- `saftvrqmie_searches::diameter_by` meets its contract. Assumes nothing.
use Prim.Native.Nat.{◌≤◌, ◌-◌}
use mathlib.Core.Bool.{false}
use mathlib.Core.Path.{◌≡◌}
use Rattle.number.specs.Ans.{Ans, held}
use Rattle.number.specs.Walk.{walk}
use Rattle.saftvrqmie_potential.specs.Potential.{PotentialIn}
use Rattle.saftvrqmie_potential.specs.Shared.{ToldAlone}
use Rattle.saftvrqmie_searches.specs.Diameter.{node_turn}
use Rattle.saftvrqmie_searches.proofs.diameter_by.Given as goal

abbrev pub invariant-loop-k : goal.invariant-loop-k
invariant-loop-k g l =
    let d = g.D.DualNum in
    let A = d.beside false in
    (l.k ≤ 21)
    × ((U : A.Num → Ans (PotentialIn A.Num)) → ToldAlone A (d.functions false) (d.plain false) (d.power_at false) (d.power_by false) (d.of false) d.exponent_in d.base_in (d.raised false) d.base_of l.w U
    → held (d.of false l.d_hs) ≡ walk l.k (node_turn A (d.functions false) U (d.of false l.temperature) (d.of false l.sigma_eff) (d.of false l.r0)) (d.of false l.r0))

abbrev pub decreases-loop-k : goal.decreases-loop-k
decreases-loop-k g l = 21 - l.k
