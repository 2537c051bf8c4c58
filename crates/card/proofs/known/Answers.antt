use Rattle.card.proofs.Reading.{known_by}
use Rattle.card.proofs.known.Goals as goal

pub returns : goal.returns
returns c = known_by _ _ _ _ _ c.first-first.ensures.0 c.most-most.ensures
