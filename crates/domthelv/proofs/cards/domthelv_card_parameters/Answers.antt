-- `domthelv::cards::domthelv_card_parameters` meets its contract. Assumes nothing.
use Rattle.domthelv.proofs.Operations.{through_status}
use mathlib.Core.Path.{refl}
use Rattle.domthelv.proofs.cards.domthelv_card_parameters.Goals as goal

pub returns : goal.returns
returns c =
    let given = c.parameters-answer.ensures in
    (through_status _ _ _ _ refl given.0 c.number.ensures, given.1, given.2, given.3, given.4, given.5, given.6)
