-- `saftvrqmie::walk::work_row` meets its contract. Assumes nothing.
use mathlib.Core.Path.{◌≡◌}
use Prim.Native.Nat.{ℕ, ◌≤◌, ◌-◌}
use Rattle.number.specs.Ans.{held}
use Rattle.number.specs.Walk.{walk}
use Rattle.saftvrqmie_potential.specs.Potential.{pair_at_entry}
use Rattle.saftvrqmie.specs.Store.{pair_stored}
use Rattle.saftvrqmie.proofs.walk.work_row.Given as goal

abbrev pub invariant-loop-j : goal.invariant-loop-j
invariant-loop-j g l =
    let S = g.S.PairStore in
    (l.j ≤ l.p.n) × (held (S.lists l.into) ≡ walk l.j (pair_stored S.kept (λ (e : ℕ). S.properties (pair_at_entry l.p.sheets.now l.p.orders l.p.temperature e)) l.i) (S.lists l.initial.into))

abbrev pub decreases-loop-j : goal.decreases-loop-j
decreases-loop-j g l = l.p.n - l.j
