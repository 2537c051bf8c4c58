-- `saftvrmie_energies::properties::after_lower` meets its contract. Assumes nothing.
use borrow.Author.Rules.{rules}
use Rattle.number.proofs.Walk.{turns_none, turns_next, turns_end}
use Rattle.saftvrmie_energies.specs.Properties.{after_lower}
use Rattle.saftvrmie_energies.proofs.properties.after_lower.Goals as goal

pub loop-i-init : goal.loop-i-init
loop-i-init g c = (search rules, λ w. turns_none _ _)

pub loop-i-preserved : goal.loop-i-preserved
loop-i-preserved g c = (search rules, λ w. turns_next _ _ _ _ _ (c.loop-i.invariant.1 w) (c.after_row-s.ensures w))

pub returns : goal.returns
unfolding after_lower
returns g c w = turns_end _ _ _ _ _ c.loop-i.invariant.0 c.loop-i-test.false (c.loop-i.invariant.1 w)
