-- `saftvrqmie_parameters::order_row` meets its contract. Assumes nothing.
use Rattle.saftvrqmie_parameters.specs.Parameters.{order_row}
use Rattle.mie_parameters.proofs.Laws.{goes_on, refused_at}
use Rattle.number.proofs.Walk.{walk_none, walk_stop, walk_end, handed_on}
use borrow.Author.Rules.{rules}
use Rattle.saftvrqmie_parameters.proofs.order_row.Goals as goal

pub loop-b-init : goal.loop-b-init
loop-b-init c = (search rules, walk_none _ _)

pub returns-in_err-pair_orders : goal.returns-in_err-pair_orders
unfolding order_row
returns-in_err-pair_orders c i e = rw (handed_on _ c.from_residual.ensures, ← e) (walk_stop _ _ _ _ _ _ c.loop-b-test.true c.loop-b.invariant.1 (refused_at _ _ _ _ c.pair_orders.ensures c.in_err-pair_orders.was))

pub loop-b-preserved : goal.loop-b-preserved
loop-b-preserved c = (search rules, goes_on _ _ _ _ _ _ c.loop-b.invariant.1 c.pair_orders.ensures c.in_ok-pair_orders.was)

pub returns : goal.returns
unfolding order_row
returns c i e = rw (← e) (walk_end _ _ _ _ _ c.loop-b.invariant.0 c.loop-b-test.false c.loop-b.invariant.1)
