-- `saftvrmie_energies::properties::zeta_sum` meets its contract. Assumes nothing.
use mathlib.Core.Path.{◌∙◌}
use borrow.Author.Rules.{rules}
use Rattle.number.proofs.Walk.{turns_none, turns_next, turns_end}
use Rattle.saftvrmie_energies.specs.Properties.{zeta_sum}
use Rattle.saftvrmie_energies.proofs.properties.zeta_sum.Goals as goal

pub loop-i-init : goal.loop-i-init
loop-i-init g c = (search rules, λ w f h. c.entered-s.ensures w ∙ turns_none _ _)

pub loop-i-preserved : goal.loop-i-preserved
loop-i-preserved g c = (search rules, λ w f h. turns_next _ _ _ _ _ (c.loop-i.invariant.1 w f h) (c.zeta_row-s.ensures w f h))

pub returns : goal.returns
unfolding zeta_sum
returns g c w f h = turns_end _ _ _ _ _ c.loop-i.invariant.0 c.loop-i-test.false (c.loop-i.invariant.1 w f h)
