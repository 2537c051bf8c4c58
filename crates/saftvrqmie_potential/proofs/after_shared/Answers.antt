-- `saftvrqmie_potential::after_shared` meets its contract. Assumes nothing.
use Rattle.saftvrqmie_potential.specs.Shared.{after_factors}
use Rattle.saftvrqmie_potential.proofs.after_shared.Goals as goal

pub returns : goal.returns
unfolding after_factors
returns g c w =
    rw (
      c.after_plain-3.ensures w,
      c.after_plain-2.ensures w,
      c.after_plain-after_q2.ensures w,
      c.after_plain.ensures w,
      c.after.ensures w,
    )
