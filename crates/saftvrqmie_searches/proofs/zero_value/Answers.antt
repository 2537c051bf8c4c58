-- `saftvrqmie_searches::zero_value` meets its contract. Assumes nothing.
use Rattle.saftvrqmie_searches.proofs.zero_value.Goals as goal

pub returns : goal.returns
returns g c w =
    let m = g.met.D.DualNum in
    rw (
      m.add_plain_law w _ _ _ c.add.ensures,
      m.div_law w _ _ _ c.div.ensures,
    )
