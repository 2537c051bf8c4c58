-- `set_lists::mie_lengths` meets its contract. Assumes nothing.
use Rattle.set_lists.specs.Sets.{mie_lengths}
use mathlib.Core.Path.{refl}
use Rattle.set_lists.proofs.mie_lengths.Goals as goal

pub returns : goal.returns
unfolding mie_lengths
returns c = refl
