-- `saftvrqmie_diameter_ends::hs_diameter` meets its contract. Assumes nothing.
use mathlib.Core.Path.{◌≡◌}
use Prim.Native.Nat.{◌≤◌, ◌-◌}
use Rattle.number.specs.Ans.{held}
use Rattle.number.specs.Functions.{calls}
use Rattle.number.specs.Walk.{walk}
use Rattle.elementary.specs.Port.{port}
use Rattle.enclosure.specs.Enclosure.{enclosures}
use Rattle.saftvrqmie_potential.specs.Potential.{pair_of, potential}
use Rattle.saftvrqmie_searches.specs.Diameter.{node_turn}
use Rattle.saftvrqmie_diameter_ends.proofs.hs_diameter.Given as goal

abbrev pub invariant-loop-k : goal.invariant-loop-k
invariant-loop-k l = (l.k ≤ 21) × (held l.d_hs ≡ walk l.k (node_turn enclosures (calls enclosures port) (potential enclosures (calls enclosures port) (pair_of l.p)) l.p.temperature l.fn.sigma_eff l.r0) l.r0)

abbrev pub decreases-loop-k : goal.decreases-loop-k
decreases-loop-k l = 21 - l.k
