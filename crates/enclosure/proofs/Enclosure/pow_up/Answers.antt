-- `enclosure::Enclosure::pow_up` meets its contract. Assumes nothing.
use Rattle.enclosure.specs.Enclosure.{pow_e}
use Rattle.enclosure.proofs.Enclosure.pow_up.Goals as goal

pub returns : goal.returns
unfolding pow_e
returns c =
    rw (
      c.pow_up-2.ensures,
      c.pow_up.ensures,
    )
