-- `logarithm::multiple` meets its contract. Assumes nothing.
use mathlib.Core.Path.{refl}
use Rattle.logarithm.specs.Logarithm.{multiple}
use Rattle.logarithm.proofs.multiple.Goals as goal

pub returns : goal.returns
unfolding multiple
returns c = refl
