-- `saftvrqmie_hard_sphere::non_additive_hs::non_additive_column` meets its contract. Assumes nothing.
use borrow.Author.Rules.{rules}
use native.Mathlib.Omega.{arith}
use Rattle.saftvrqmie_hard_sphere.specs.NonAdditive.{non_additive_turn, non_additive_column}
use Rattle.saftvrqmie_hard_sphere.proofs.Sums.{added, holds_none, holds_next, holds_end}
use Rattle.saftvrqmie_hard_sphere.proofs.non_additive_hs.non_additive_column.Goals as goal

pub loop-i-init : goal.loop-i-init
loop-i-init g c = (search rules, λ w x v q p. holds_none _ _ _ _ _ p)

pub loop-i-preserved : goal.loop-i-preserved
unfolding non_additive_turn
loop-i-preserved g c =
    let m = g.met.D.DualNum in (
      search rules,
      λ w x v q p.
          let pair = rw (c.entry-di.ensures w, c.entry-dj.ensures w, c.entry-dij.ensures w, c.item-xi.ensures w, q _ c.loop-i-test.true, c.item-xj.ensures w, q _ c.requires.1) at (c.non_additive_ij.ensures w) in
          let D = g.D.DualNum in
          holds_next _ _ (m.taken_of_law w) _ _ _ _ (added (D.of w) (D.taken w) (D.beside w).add (m.add_taken_law w) _ _ _ _ _ (m.add_law w _ _ _ c.add-r.ensures) (c.loop-i.invariant.1 w x v q p).begun pair),
    )

pub returns : goal.returns
unfolding non_additive_column
returns g c w x v q p = holds_end _ _ _ _ _ _ _ c.loop-i.invariant.0 c.loop-i-test.false (omega (arith, c.requires.1)) (c.loop-i.invariant.1 w x v q p)
