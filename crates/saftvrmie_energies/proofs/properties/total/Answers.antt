-- `saftvrmie_energies::properties::total` meets its contract. Assumes nothing.
use mathlib.Core.Path.{◌∙◌}
use borrow.Author.Rules.{rules}
use Rattle.number.proofs.Walk.{turns_none, turns_next, turns_end}
use Rattle.saftvrmie_energies.specs.Properties.{total}
use Rattle.saftvrmie_energies.proofs.properties.total.Goals as goal

pub loop-x-init : goal.loop-x-init
loop-x-init g c = (search rules, λ w. c.entered-s.ensures w ∙ turns_none _ _)

pub loop-x-preserved : goal.loop-x-preserved
loop-x-preserved g c =
    let m = g.met.D.DualNum in
    (search rules, λ w. turns_next _ _ _ _ _ (c.loop-x.invariant.1 w) (rw (m.add_law w _ _ _ c.add-s.ensures, c.entered.ensures w)))

pub returns : goal.returns
unfolding total
returns g c w = turns_end _ _ _ _ _ c.loop-x.invariant.0 c.loop-x-test.false (c.loop-x.invariant.1 w)
