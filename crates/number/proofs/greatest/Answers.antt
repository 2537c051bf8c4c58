-- `number::greatest` meets its contract. Assumes nothing.
use Rattle.number.specs.Neighbour.{greatest}
use Rattle.number.proofs.greatest.Goals as goal

pub returns-then-x-y : goal.returns-then-x-y
unfolding greatest
returns-then-x-y c = rw c.if-x-y.true

pub returns-else-x-y : goal.returns-else-x-y
unfolding greatest
returns-else-x-y c = rw c.if-x-y.false
