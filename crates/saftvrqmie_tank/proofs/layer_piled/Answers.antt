-- `saftvrqmie_tank::layer_piled` meets its contract. Assumes nothing.
use Rattle.saftvrqmie_tank.specs.Tank.{layer_piled}
use Rattle.saftvrqmie_tank.proofs.layer_piled.Goals as goal

pub returns : goal.returns
unfolding layer_piled
returns g c w = rw (c.wanted_pile-a.ensures w, c.piled-d.ensures w, c.piled-h.ensures w)
