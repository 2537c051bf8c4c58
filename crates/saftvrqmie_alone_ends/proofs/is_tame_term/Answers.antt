-- `saftvrqmie_alone_ends::is_tame_term` meets its contract. Assumes nothing.
use Rattle.saftvrqmie_alone_ends.specs.Alone.{tame_term}
use Rattle.saftvrqmie_alone_ends.proofs.is_tame_term.Goals as goal

pub returns : goal.returns
unfolding tame_term
returns c =
    rw (
      c.plain-7.ensures,
      c.plain-6.ensures,
      c.plain-5.ensures,
      c.plain-4.ensures,
      c.plain-3.ensures,
      c.plain-2.ensures,
      c.plain.ensures,
      c.small-4.ensures,
      c.small-3.ensures,
      c.small-2.ensures,
      c.small.ensures,
    )
