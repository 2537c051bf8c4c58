-- `saftvrmie::right_length` meets its contract. Assumes nothing.
use Rattle.saftvrmie.specs.Diameters.{right_length}
use Rattle.saftvrmie.proofs.right_length.Goals as goal

pub returns : goal.returns
unfolding right_length
returns c = rw c.count_within.ensures
