-- `number::least` meets its contract. Assumes nothing.
use Rattle.number.specs.Neighbour.{least}
use Rattle.number.proofs.least.Goals as goal

pub returns-then-y-x : goal.returns-then-y-x
unfolding least
returns-then-y-x c = rw c.if-y-x.true

pub returns-else-y-x : goal.returns-else-y-x
unfolding least
returns-else-y-x c = rw c.if-y-x.false
