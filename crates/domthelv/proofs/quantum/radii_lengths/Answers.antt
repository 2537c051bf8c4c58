-- `domthelv::quantum::radii_lengths` meets its contract. Assumes nothing.
use Rattle.domthelv.specs.Operations.{radii_lengths}
use mathlib.Core.Path.{refl}
use Rattle.domthelv.proofs.quantum.radii_lengths.Goals as goal

pub returns : goal.returns
unfolding radii_lengths
returns c = refl
