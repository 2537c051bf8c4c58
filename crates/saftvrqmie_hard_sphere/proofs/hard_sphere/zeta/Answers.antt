-- `saftvrqmie_hard_sphere::hard_sphere::zeta` meets its contract. Assumes nothing.
use borrow.Author.Rules.{rules}
use Rattle.saftvrqmie_hard_sphere.specs.HardSphere.{zeta}
use Rattle.saftvrqmie_hard_sphere.proofs.Sums.{holds_none, holds_next, holds_end}
use Rattle.saftvrqmie_hard_sphere.proofs.hard_sphere.zeta.Goals as goal

pub loop-i-init : goal.loop-i-init
loop-i-init g c = (search rules, λ w. holds_none _ _ _ _ _ (rw (c.zero-none.ensures w)))

pub loop-i-preserved : goal.loop-i-preserved
loop-i-preserved g c =
    let m = g.met.D.DualNum in
    (search rules, λ w. holds_next _ _ (λ x. rw (m.taken_of_law w x.z0, m.taken_of_law w x.z1, m.taken_of_law w x.z2, m.taken_of_law w x.z3)) _ _ _ _ (rw (c.entry-a.ensures w, c.entry-d.ensures w, m.plain_lit_law w _ _ c.lit.ensures) at (c.zeta_added-z.ensures w _ (c.loop-i.invariant.1 w).begun)))

pub returns : goal.returns
unfolding zeta
returns g c w = holds_end _ _ _ _ _ _ _ c.loop-i.invariant.0 c.loop-i-test.false c.requires.0 (c.loop-i.invariant.1 w)
