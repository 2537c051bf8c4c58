-- `saftvrqmie::walk::work_pairs` meets its contract. Assumes nothing.
use mathlib.Core.Path.{◌≡◌}
use Prim.Native.Nat.{ℕ, ◌≤◌, ◌-◌}
use Rattle.number.specs.Ans.{held}
use Rattle.number.specs.Walk.{walk}
use Rattle.saftvrqmie_potential.specs.Potential.{pair_at_entry}
use Rattle.saftvrqmie.specs.Store.{row_stored}
use Rattle.saftvrqmie.proofs.walk.work_pairs.Given as goal

abbrev pub invariant-loop-i : goal.invariant-loop-i
invariant-loop-i g l =
    let S = g.S.PairStore in
    (l.i ≤ l.p.n) × (held (S.lists l.into) ≡ walk l.i (row_stored S.kept (λ (e : ℕ). S.properties (pair_at_entry l.p.sheets.now l.p.orders l.p.temperature e)) l.p.n) (S.lists l.initial.into))

abbrev pub decreases-loop-i : goal.decreases-loop-i
decreases-loop-i g l = l.p.n - l.i
