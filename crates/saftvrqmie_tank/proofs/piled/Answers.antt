-- `saftvrqmie_tank::piled` meets its contract. Assumes nothing.
use Rattle.saftvrqmie_tank.specs.Tank.{piled}
use Rattle.saftvrqmie_tank.proofs.piled.Goals as goal

pub returns : goal.returns
unfolding piled
returns g c w =
    let m = g.met.D.DualNum in
    rw (m.add_law w _ _ _ c.add.ensures, m.mul_law w _ _ _ c.mul-2.ensures, m.mul_law w _ _ _ c.mul.ensures, c.entered-t.ensures w, c.entered-v.ensures w)
