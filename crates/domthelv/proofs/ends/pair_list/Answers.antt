-- `domthelv::ends::pair_list` meets its contract. Assumes nothing.
use mathlib.Core.Path.{refl}
use Rattle.domthelv.specs.Operations.{pair_written}
use Rattle.domthelv.proofs.Places.{two_places}
use Rattle.domthelv.proofs.ends.pair_list.Goals as goal

pub returns : goal.returns
unfolding pair_written
returns c = (refl, two_places _ _)
