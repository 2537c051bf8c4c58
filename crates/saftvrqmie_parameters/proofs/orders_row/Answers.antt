-- `saftvrqmie_parameters::orders_row` meets its contract. Assumes nothing.
use Rattle.saftvrqmie_parameters.specs.Parameters.{orders_turn, orders_row}
use Rattle.number.proofs.Walk.{turns_none, turns_next, turns_end}
use borrow.Author.Rules.{rules}
use Rattle.saftvrqmie_parameters.proofs.orders_row.Goals as goal

pub loop-j-init : goal.loop-j-init
loop-j-init c = (search rules, turns_none _ _)

pub loop-j-preserved : goal.loop-j-preserved
unfolding orders_turn
loop-j-preserved c = (search rules, turns_next _ _ _ _ _ c.loop-j.invariant.1 (rw (c.from-order.ensures, c.max.ensures)))

pub returns : goal.returns
unfolding orders_row
returns c = turns_end _ _ _ _ _ c.loop-j.invariant.0 c.loop-j-test.false c.loop-j.invariant.1
