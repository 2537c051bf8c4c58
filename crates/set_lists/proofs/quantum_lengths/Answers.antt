-- `set_lists::quantum_lengths` meets its contract. Assumes nothing.
use Rattle.set_lists.specs.Sets.{quantum_lengths}
use mathlib.Core.Path.{refl}
use Rattle.set_lists.proofs.quantum_lengths.Goals as goal

pub returns : goal.returns
unfolding quantum_lengths
returns c = refl
