-- `set_lists::written::orders_written` meets its contract. Assumes nothing.
use Rattle.set_lists.specs.Written.{orders_written}
use Rattle.number.proofs.Walk.{turns_none, turns_next, turns_end}
use mathlib.Core.Path.{refl}
use borrow.Author.Rules.{rules}
use Rattle.set_lists.proofs.written.orders_written.Goals as goal

pub loop-e-init : goal.loop-e-init
loop-e-init c = (search rules, turns_none _ _)

pub loop-e-preserved : goal.loop-e-preserved
loop-e-preserved c = (search rules, turns_next _ _ _ _ _ c.loop-e.invariant.1 (rw c.order_byte.ensures refl))

pub returns : goal.returns
unfolding orders_written
returns c = turns_end _ _ _ _ _ c.loop-e.auto.e-end c.loop-e-test.false c.loop-e.invariant.1
