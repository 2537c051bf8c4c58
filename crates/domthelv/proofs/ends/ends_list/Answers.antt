-- `domthelv::ends::ends_list` meets its contract. Assumes nothing.
use mathlib.Core.Path.{refl}
use Rattle.domthelv.specs.Operations.{ends_written}
use Rattle.slopes_calls.proofs.Places.{six_places}
use Rattle.domthelv.proofs.ends.ends_list.Goals as goal

pub returns : goal.returns
unfolding ends_written
returns c = (refl, six_places _ _ _ _ _ _)
