-- `saftvrqmie::right_lists` meets its contract. Assumes nothing.
use Rattle.saftvrqmie.specs.Table.{right_lists}
use Rattle.saftvrqmie.proofs.right_lists.Goals as goal

pub returns : goal.returns
unfolding right_lists
returns c = rw c.count_within.ensures
