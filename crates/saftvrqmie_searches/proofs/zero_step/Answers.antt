-- `saftvrqmie_searches::zero_step` meets its contract. Assumes nothing.
use Rattle.saftvrqmie_searches.proofs.zero_step.Goals as goal

pub returns : goal.returns
returns g c w =
    let m = g.met.D.DualNum in
    rw (
      m.add_law w _ _ _ c.add.ensures,
      c.clamp.ensures w,
      m.neg_law w _ _ c.neg.ensures,
      m.div_law w _ _ _ c.div-2.ensures,
      m.div_law w _ _ _ c.div.ensures,
    )
