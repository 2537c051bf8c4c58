-- `saftvrqmie_dispersion_sums::packing` meets its contract. Assumes nothing.
use borrow.Author.Rules.{rules}
use mathlib.Core.Bool.{true}
use mathlib.Core.Path.{sym}
use Rattle.saftvrqmie_hard_sphere.proofs.Sums.{holds_none, holds_next, holds_end}
use Rattle.saftvrqmie_dispersion_sums.specs.Dispersion.{packing}
use Rattle.saftvrqmie_dispersion_sums.proofs.packing.Goals as goal

pub loop-i-init : goal.loop-i-init
loop-i-init g c = (search rules, λ x q. holds_none _ _ _ _ _ (sym (c.zero-r.ensures true)))

pub loop-i-preserved : goal.loop-i-preserved
loop-i-preserved g c =
    let m = g.met.D.DualNum in
    (search rules, λ x q. holds_next _ _ (m.taken_of_law true) _ _ _ _ (c.packing_row-r.ensures x _ q (c.loop-i.invariant.1 x q).begun))

pub returns : goal.returns
unfolding packing
returns g c x q =
    let m = g.met.D.DualNum in
    rw (m.mul_law true _ _ _ c.mul-2.ensures, m.mul_plain_law true _ _ _ c.mul.ensures, c.frac_pi_6.ensures true, holds_end _ _ _ _ _ _ _ c.loop-i.invariant.0 c.loop-i-test.false c.requires.0.0 (c.loop-i.invariant.1 x q))
