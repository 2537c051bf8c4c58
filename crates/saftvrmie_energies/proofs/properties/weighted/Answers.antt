-- `saftvrmie_energies::properties::weighted` meets its contract. Assumes nothing.
use mathlib.Core.Path.{◌∙◌}
use borrow.Author.Rules.{rules}
use Rattle.number.proofs.Walk.{turns_none, turns_next, turns_end}
use Rattle.mie_parameters.specs.Sums.{weighted}
use Rattle.saftvrmie_energies.proofs.properties.weighted.Goals as goal

pub loop-i-init : goal.loop-i-init
loop-i-init g c = (search rules, λ w. c.entered-s.ensures w ∙ turns_none _ _)

pub loop-i-preserved : goal.loop-i-preserved
loop-i-preserved g c =
    let m = g.met.D.DualNum in
    (search rules, λ w. turns_next _ _ _ _ _ (c.loop-i.invariant.1 w) (rw (m.add_law w _ _ _ c.add-s.ensures, m.mul_plain_law w _ _ _ c.mul.ensures, m.plain_lit_law w _ _ c.lit.ensures, c.entered.ensures w)))

pub returns : goal.returns
unfolding weighted
returns g c w = turns_end _ _ _ _ _ c.loop-i.invariant.0 c.loop-i-test.false (c.loop-i.invariant.1 w)
