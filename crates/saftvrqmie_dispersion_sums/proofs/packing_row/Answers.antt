-- `saftvrqmie_dispersion_sums::packing_row` meets its contract. Assumes nothing.
use borrow.Author.Rules.{rules}
use native.Mathlib.Omega.{arith}
use mathlib.Core.Bool.{true}
use Rattle.saftvrqmie_hard_sphere.proofs.Sums.{holds_none, holds_next, holds_end}
use Rattle.saftvrqmie_dispersion_sums.specs.Dispersion.{packing_turn, packing_row}
use Rattle.saftvrqmie_dispersion_sums.proofs.packing_row.Goals as goal

pub loop-j-init : goal.loop-j-init
loop-j-init g c = (search rules, λ x v q p. holds_none _ _ _ _ _ p)

pub loop-j-preserved : goal.loop-j-preserved
unfolding packing_turn
loop-j-preserved g c =
    let m = g.met.D.DualNum in
    (search rules, λ x v q p. holds_next _ _ (m.taken_of_law true) _ _ _ _ (rw (m.add_law true _ _ _ c.add-r.ensures, ← (c.loop-j.invariant.1 x v q p).begun, m.add_taken_law true _ _, m.mul_law true _ _ _ c.mul-in-loop-j.ensures, m.mul_law true _ _ _ c.mul.ensures, c.cube.ensures true, c.entry-d.ensures true, c.item-xi.ensures true, q _ c.requires.2, c.item-xj.ensures true, q _ c.loop-j-test.true)))

pub returns : goal.returns
unfolding packing_row
returns g c x v q p = holds_end _ _ _ _ _ _ _ c.loop-j.invariant.0 c.loop-j-test.false (omega (arith, c.requires.2)) (c.loop-j.invariant.1 x v q p)
