-- `saftvrqmie_alone_ends::is_tame` meets its contract. Assumes nothing.
use Rattle.saftvrqmie_alone_ends.specs.Alone.{tame_of}
use Rattle.saftvrqmie_alone_ends.proofs.is_tame.Goals as goal

pub returns : goal.returns
unfolding tame_of
returns c =
    rw (
      c.small-3.ensures,
      c.small-2.ensures,
      c.small.ensures,
      c.is_tame_term-2.ensures,
      c.is_tame_term.ensures,
    )
