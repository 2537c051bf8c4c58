-- `saftvrqmie_parameters::order_walk` meets its contract. Assumes nothing.
use mathlib.Core.Path.{refl}
use Rattle.saftvrqmie_parameters.specs.Parameters.{order_walk}
use Rattle.mie_parameters.proofs.Laws.{goes_on, refused_at}
use Rattle.number.proofs.Walk.{walk_none, walk_stop, walk_end, handed_on}
use borrow.Author.Rules.{rules}
use Rattle.saftvrqmie_parameters.proofs.order_walk.Goals as goal

pub loop-a-init : goal.loop-a-init
loop-a-init c = (search rules, walk_none _ _)

pub returns-in_err-order_row : goal.returns-in_err-order_row
unfolding order_walk
returns-in_err-order_row c = rw (handed_on _ c.from_residual.ensures) (walk_stop _ _ _ _ _ _ c.loop-a-test.true c.loop-a.invariant.1 (refused_at _ _ _ _ (c.order_row.ensures c.loop-a.a-index refl) c.in_err-order_row.was))

pub loop-a-preserved : goal.loop-a-preserved
loop-a-preserved c = (search rules, goes_on _ _ _ _ _ _ c.loop-a.invariant.1 (c.order_row.ensures c.loop-a.a-index refl) c.in_ok-order_row.was)

pub returns : goal.returns
unfolding order_walk
returns c = walk_end _ _ _ _ _ c.loop-a.invariant.0 c.loop-a-test.false c.loop-a.invariant.1
