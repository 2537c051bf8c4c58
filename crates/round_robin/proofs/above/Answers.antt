-- `round_robin::above` meets its contract. Assumes nothing.
use Rattle.round_robin.proofs.Seek.{above_on, above_round}
use Rattle.round_robin.proofs.above.Goals as goal

pub returns-then-k : goal.returns-then-k
returns-then-k c = above_on _ c.if-k.true

pub returns : goal.returns
returns c = above_round _ c.if-k.false
