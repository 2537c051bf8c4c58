-- `enclosure::Enclosure::pow_down` meets its contract. Assumes nothing.
use Rattle.enclosure.specs.Enclosure.{down_e}
use Rattle.enclosure.proofs.Enclosure.pow_down.Goals as goal

pub returns : goal.returns
unfolding down_e
returns c =
    rw (
      c.pow_down-2.ensures,
      c.pow_down.ensures,
    )
