-- `saftvrqmie_dispersion::perturbation::second_order_at` meets its contract. Assumes nothing.
use Prim.Native.Nat.{◌≤◌}
use denote.Param.{value_of, number}
use lib.Dec.{eqb}
use mathlib.Core.Bool.{not}
use mathlib.Core.Path.{◌≡◌}
use Rattle.number.specs.Ans.{held}
use Rattle.number.specs.Arith.{whole}
use Rattle.number.specs.Walk.{walk}
use Rattle.saftvrqmie_dispersion_terms.specs.Terms.{terms_by}
use Rattle.saftvrqmie_dispersion.specs.Perturbation.{dispersion_by, quantum_by, second_turn}
use Rattle.saftvrqmie_dispersion.proofs.perturbation.second_order_at.Given as goal

abbrev pub invariant-loop-q : goal.invariant-loop-q
invariant-loop-q g l =
    let d = g.D.DualNum in
    let w = not (eqb (value_of (number g.row.ONE)) 0) in
    (l.q ≤ l.count) × (held (d.of w l.a2) ≡ walk l.q (second_turn (d.beside w) (dispersion_by (d.plain w) (d.of w) l.p) (terms_by (d.beside w) (d.plain w) (d.of w) (d.power_at w) l.t) (quantum_by (d.of w) l.g)) (whole (d.beside w) 0))
