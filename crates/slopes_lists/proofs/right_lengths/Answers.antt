-- `slopes_lists::right_lengths` meets its contract. Assumes nothing.
use mathlib.Core.Path.{refl}
use Rattle.slopes_lists.specs.Lists.{right_lengths}
use Rattle.slopes_lists.proofs.right_lengths.Goals as goal

pub returns : goal.returns
unfolding right_lengths
returns c = refl
