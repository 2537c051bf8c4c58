-- `domthelv::quantum::total_list` meets its contract. Assumes nothing.
use mathlib.Core.Path.{refl}
use Rattle.domthelv.specs.Total.{total_written}
use Rattle.domthelv.proofs.Places.{four_places}
use Rattle.domthelv.proofs.quantum.total_list.Goals as goal

pub returns : goal.returns
unfolding total_written
returns c = (refl, four_places _ _ _ _)
