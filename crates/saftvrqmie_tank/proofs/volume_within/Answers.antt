-- `saftvrqmie_tank::volume_within` meets its contract. Assumes nothing.
use Rattle.saftvrqmie_tank.specs.Tank.{volume_within}
use lib.Ieee.{of_bits}
use Rattle.number.specs.Arith.{decimal}
use mathlib.Core.Path.{refl}
use Rattle.saftvrqmie_tank.proofs.volume_within.Goals as goal

pub returns : goal.returns
unfolding volume_within decimal of_bits
returns c = refl
