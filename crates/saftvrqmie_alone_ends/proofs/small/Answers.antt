-- `saftvrqmie_alone_ends::small` meets its contract. Assumes nothing.
use Rattle.saftvrqmie_alone_ends.specs.Alone.{small_ends}
use Rattle.saftvrqmie_alone_ends.proofs.small.Goals as goal

pub returns : goal.returns
unfolding small_ends
returns c =
    rw (
      c.within-2.ensures,
      c.within.ensures,
    )
