-- `saftvrqmie_tank::layer_within` meets its contract. Assumes nothing.
use Rattle.saftvrqmie_tank.specs.Tank.{layer_within}
use Rattle.saftvrqmie_tank.proofs.layer_within.Goals as goal

pub returns : goal.returns
unfolding layer_within
returns c = rw (c.volume_within.ensures, c.state_within.ensures)
