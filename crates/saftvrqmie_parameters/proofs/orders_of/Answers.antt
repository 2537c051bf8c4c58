-- `saftvrqmie_parameters::orders_of` meets its contract. Assumes nothing.
use Rattle.saftvrqmie_parameters.specs.Parameters.{orders_of}
use Rattle.number.proofs.Walk.{turns_none, turns_next, turns_end}
use borrow.Author.Rules.{rules}
use Rattle.saftvrqmie_parameters.proofs.orders_of.Goals as goal

pub loop-i-init : goal.loop-i-init
loop-i-init c = (search rules, turns_none _ _)

pub loop-i-preserved : goal.loop-i-preserved
loop-i-preserved c = (search rules, turns_next _ _ _ _ _ c.loop-i.invariant.1 c.orders_row.ensures)

pub returns : goal.returns
unfolding orders_of
returns c = turns_end _ _ _ _ _ c.loop-i.invariant.0 c.loop-i-test.false c.loop-i.invariant.1
