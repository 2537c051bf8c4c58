-- `limits::index_within` meets its contract. Assumes nothing.
use Rattle.limits.specs.Limits.{index_within}
use Rattle.limits.proofs.index_within.Goals as goal

pub returns : goal.returns
unfolding index_within
returns c = rw c.count_within.ensures
