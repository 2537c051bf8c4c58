-- `saftvrqmie_searches::radius_search` meets its contract. Assumes nothing.
use Prim.Native.Nat.{◌-◌}
use mathlib.Core.Bool.{false}
use Rattle.number.specs.Ans.{Ans, held}
use Rattle.saftvrqmie_potential.specs.Potential.{PotentialIn}
use Rattle.saftvrqmie_potential.specs.Shared.{Told}
use Rattle.saftvrqmie_searches.specs.Searches.{searched}
use Rattle.saftvrqmie_searches.specs.Steps.{Tests, Moves}
use Rattle.saftvrqmie_searches.proofs.Loops.{On}
use Rattle.saftvrqmie_searches.proofs.radius_search.Given as goal

abbrev pub invariant-loop-k : goal.invariant-loop-k
invariant-loop-k g l =
    let d = g.D.DualNum in
    let A = d.beside false in
    (U : A.Num → Ans (PotentialIn A.Num)) (t : PotentialIn A.Num → A.Num) (m : A.Num → PotentialIn A.Num → A.Num → A.Num)
    → Told A (d.functions false) (d.plain false) (d.power_at false) (d.power_by false) (d.of false) d.exponent_in d.base_in (d.raised false) d.base_of l.w U
    → Tests (d.of false) (goal.T-post g l.tested) t → Moves (d.of false) (goal.M-post g l.moved) m
    → On A U t m (searched A U (λ v. held (t v)) m (d.of false l.fn.start)) (d.of false l.r) (d.of false l.u) l.k

abbrev pub decreases-loop-k : goal.decreases-loop-k
decreases-loop-k g l = 19 - l.k
