-- `saftvrqmie_tank::layers_within` meets its contract. Assumes nothing.
use Rattle.saftvrqmie_tank.specs.Tank.{layers_within}
use mathlib.Core.Path.{refl}
use Rattle.saftvrqmie_tank.proofs.layers_within.Goals as goal

pub returns : goal.returns
unfolding layers_within
returns c = refl
