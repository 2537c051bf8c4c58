-- `saftvrqmie_potential::finished` meets its contract. Assumes nothing.
use Rattle.saftvrqmie_potential.specs.Potential.{scaled}
use Rattle.saftvrqmie_potential.specs.Shared.{finished_from}
use Rattle.saftvrqmie_potential.proofs.finished.Goals as goal

pub returns : goal.returns
unfolding finished_from scaled
returns g c w =
    let m = g.met.D.DualNum in
    rw (
      m.mul_plain_law w _ _ _ c.mul-3.ensures,
      m.mul_plain_law w _ _ _ c.mul-2.ensures,
      c.after_shared.ensures w,
      m.mul_plain_law w _ _ _ c.mul.ensures,
    )
