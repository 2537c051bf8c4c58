-- `saftvrqmie_searches::depth_step` meets its contract. Assumes nothing.
use Rattle.saftvrqmie_searches.proofs.depth_step.Goals as goal

pub returns : goal.returns
returns g c w =
    let m = g.met.D.DualNum in
    rw (
      m.add_law w _ _ _ c.add.ensures,
      m.div_law w _ _ _ c.div.ensures,
      m.neg_law w _ _ c.neg.ensures,
    )
