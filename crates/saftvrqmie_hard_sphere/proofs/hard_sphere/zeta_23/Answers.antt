-- `saftvrqmie_hard_sphere::hard_sphere::zeta_23` meets its contract. Assumes nothing.
use borrow.Author.Rules.{rules}
use mathlib.Core.Path.{ap, ◌∙◌}
use Rattle.saftvrqmie_hard_sphere.specs.HardSphere.{Zeta23In, zeta23, zeta23_sums}
use Rattle.saftvrqmie_hard_sphere.proofs.Sums.{holds_none, holds_next, holds_end}
use Rattle.saftvrqmie_hard_sphere.proofs.hard_sphere.zeta_23.Goals as goal

pub loop-i-init : goal.loop-i-init
loop-i-init g c = (search rules, λ w. holds_none _ _ _ _ _ (rw (c.zero-none.ensures w)))

pub loop-i-preserved : goal.loop-i-preserved
loop-i-preserved g c =
    let m = g.met.D.DualNum in
    (search rules, λ w. holds_next _ _ (λ x. rw (m.taken_of_law w x.y0, m.taken_of_law w x.y1)) _ _ _ _ (rw (c.entry-a.ensures w, c.entry-d.ensures w, m.plain_lit_law w _ _ c.lit.ensures) at (c.zeta_23_added-y.ensures w _ (c.loop-i.invariant.1 w).begun)))

pub returns : goal.returns
unfolding zeta23 zeta23_sums
returns g c w =
    let m = g.met.D.DualNum in
    let A = g.D.DualNum.beside w in
    m.div_law w _ _ _ c.div.ensures ∙ ap (λ (y : Zeta23In A.Num). A.div y.y0 y.y1) (holds_end _ _ _ _ _ _ _ c.loop-i.invariant.0 c.loop-i-test.false c.requires.0 (c.loop-i.invariant.1 w))
