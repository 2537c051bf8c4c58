-- `saftvrqmie_dispersion::perturbation::second_order_at` meets its contract. Assumes nothing.
use Prim.Native.Nat.{◌≤◌, ◌<◌}
use native.Mathlib.Omega.{arith}
use denote.Param.{value_of, number}
use lib.Dec.{eqb}
use lib.Ieee.{of_bits}
use mathlib.Core.Bool.{not}
use mathlib.Core.Path.{◌≡◌, sym}
use Rattle.number.specs.Ans.{◌>>=◌}
use Rattle.number.specs.Arith.{decimal, whole}
use Rattle.number.proofs.Walk.{handed_on, walk_none, walk_next, walk_stop, walk_end}
use Rattle.saftvrqmie_dispersion.specs.Perturbation.{second_order_by}
use Rattle.saftvrqmie_dispersion.proofs.perturbation.second_order_at.Goals as goal

pub returns-in_err-a2 : goal.returns-in_err-a2
unfolding second_order_by ◌>>=◌ decimal of_bits
returns-in_err-a2 g c =
    let d = g.D.DualNum in
    let m = g.met.D.DualNum in
    let w = not (eqb (value_of (number g.row.ONE)) 0) in
    let zero : d.taken w (whole (d.beside w) 0) ≡ d.of w c.lift-zero.result = rw (c.lift-zero.ensures w, m.plain_lit_law w _ _ c.lit.ensures) in
    let some : 0 < c.turn_count-count.result = rw c.turn_count-count.ensures (omega arith) in
    rw (
      handed_on _ c.from_residual.ensures,
      ← c.quantum_of-g.ensures w,
      ← c.turn_count-count.ensures,
      ← walk_stop _ _ _ 0 _ _ some (walk_none _ _) (sym (c.in_err-a2.ensures _ zero)),
    )

pub loop-q-init : goal.loop-q-init
unfolding decimal of_bits
loop-q-init g c =
    let d = g.D.DualNum in
    let m = g.met.D.DualNum in
    let w = not (eqb (value_of (number g.row.ONE)) 0) in
    let zero : d.taken w (whole (d.beside w) 0) ≡ d.of w c.lift-zero.result = rw (c.lift-zero.ensures w, m.plain_lit_law w _ _ c.lit.ensures) in
    let some : 1 ≤ c.turn_count-count.result = rw c.turn_count-count.ensures (omega arith) in
    (some, walk_next _ _ 0 _ _ (walk_none _ _) (sym (c.in_ok-a2.ensures _ zero)))

pub returns-in_err-a2-2 : goal.returns-in_err-a2-2
unfolding second_order_by ◌>>=◌
returns-in_err-a2-2 g c =
    let m = g.met.D.DualNum in
    let w = not (eqb (value_of (number g.row.ONE)) 0) in
    rw (
      handed_on _ c.from_residual-in_err-a2-2.ensures,
      ← c.quantum_of-g.ensures w,
      ← c.turn_count-count.ensures,
      ← walk_stop _ _ _ _ _ _ c.loop-q-test.true c.loop-q.invariant.1 (sym (c.in_err-a2-2.ensures _ (m.taken_of_law w _))),
    )

pub loop-q-preserved : goal.loop-q-preserved
loop-q-preserved g c =
    let m = g.met.D.DualNum in
    let w = not (eqb (value_of (number g.row.ONE)) 0) in
    (omega arith, walk_next _ _ _ _ _ c.loop-q.invariant.1 (sym (c.in_ok-a2-2.ensures _ (m.taken_of_law w _))))

pub returns : goal.returns
unfolding second_order_by ◌>>=◌
returns g c =
    let w = not (eqb (value_of (number g.row.ONE)) 0) in
    rw (
      c.second_closed.ensures w,
      ← c.quantum_of-g.ensures w,
      ← c.turn_count-count.ensures,
      ← walk_end _ _ _ _ _ c.loop-q.invariant.0 c.loop-q-test.false c.loop-q.invariant.1,
    )
