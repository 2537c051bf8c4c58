-- `saftvrqmie_hard_sphere::hard_sphere::segment_density` meets its contract. Assumes nothing.
use borrow.Author.Rules.{rules}
use lib.Ieee.{of_bits}
use mathlib.Core.Path.{sym}
use Rattle.number.specs.Arith.{decimal}
use Rattle.mie_parameters.specs.Sums.{weighted}
use Rattle.saftvrqmie_hard_sphere.proofs.Sums.{holds_none, holds_next, holds_end}
use Rattle.saftvrqmie_hard_sphere.proofs.hard_sphere.segment_density.Goals as goal

pub loop-i-init : goal.loop-i-init
unfolding decimal of_bits
loop-i-init g c = (search rules, λ w. holds_none _ _ _ _ _ (sym (c.zero-r.ensures w)))

pub loop-i-preserved : goal.loop-i-preserved
loop-i-preserved g c =
    let m = g.met.D.DualNum in
    (search rules, λ w. holds_next _ _ (m.taken_of_law w) _ _ _ _ (rw (m.add_law w _ _ _ c.add-r.ensures, ← (c.loop-i.invariant.1 w).begun, m.add_taken_law w _ _, m.mul_plain_law w _ _ _ c.mul.ensures, c.entry.ensures w, m.plain_lit_law w _ _ c.lit.ensures)))

pub returns : goal.returns
unfolding weighted
returns g c w = holds_end _ _ _ _ _ _ _ c.loop-i.invariant.0 c.loop-i-test.false c.requires.0 (c.loop-i.invariant.1 w)
