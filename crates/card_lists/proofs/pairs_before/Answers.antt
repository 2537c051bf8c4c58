-- `card_lists::pairs_before` meets its contract. Assumes nothing.
use Rattle.card_lists.proofs.Lists.{before_closed}
use Rattle.card_lists.proofs.pairs_before.Goals as goal

pub returns : goal.returns
returns c = before_closed _ _ c.requires.1
