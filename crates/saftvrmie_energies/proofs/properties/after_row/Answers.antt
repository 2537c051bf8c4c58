-- `saftvrmie_energies::properties::after_row` meets its contract. Assumes nothing.
use borrow.Author.Rules.{rules}
use Rattle.number.proofs.Walk.{turns_none, turns_next, turns_end}
use Rattle.saftvrmie_energies.proofs.properties.after_row.Goals as goal

pub loop-j-init : goal.loop-j-init
loop-j-init g c = (search rules, λ w. turns_none _ _)

pub loop-j-preserved : goal.loop-j-preserved
loop-j-preserved g c = (search rules, λ w. turns_next _ _ _ _ _ (c.loop-j.invariant.1 w) (rw (c.after-s.ensures w, c.d3_ij.ensures w)))

pub returns : goal.returns
returns g c w = turns_end _ _ _ _ _ c.loop-j.invariant.0 c.loop-j-test.false (c.loop-j.invariant.1 w)
