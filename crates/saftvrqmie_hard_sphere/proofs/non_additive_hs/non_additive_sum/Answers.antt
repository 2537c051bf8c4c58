-- `saftvrqmie_hard_sphere::non_additive_hs::non_additive_sum` meets its contract. Assumes nothing.
use borrow.Author.Rules.{rules}
use mathlib.Core.Path.{sym}
use Rattle.saftvrqmie_hard_sphere.specs.NonAdditive.{non_additive_sum}
use Rattle.saftvrqmie_hard_sphere.proofs.Sums.{holds_none, holds_next, holds_end}
use Rattle.saftvrqmie_hard_sphere.proofs.non_additive_hs.non_additive_sum.Goals as goal

pub loop-j-init : goal.loop-j-init
loop-j-init g c = (search rules, λ w x q. holds_none _ _ _ _ _ (sym (c.zero-r.ensures w)))

pub loop-j-preserved : goal.loop-j-preserved
loop-j-preserved g c =
    let m = g.met.D.DualNum in
    (search rules, λ w x q. holds_next _ _ (m.taken_of_law w) _ _ _ _ (c.non_additive_column-r.ensures w x _ q (c.loop-j.invariant.1 w x q).begun))

pub returns : goal.returns
unfolding non_additive_sum
returns g c w x q = holds_end _ _ _ _ _ _ _ c.loop-j.invariant.0 c.loop-j-test.false c.requires.0 (c.loop-j.invariant.1 w x q)
