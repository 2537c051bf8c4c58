-- `domthelv::card_writing::domthelv_vr_card` meets its contract. Assumes nothing.
use Rattle.domthelv.proofs.Operations.{through_status}
use mathlib.Core.Path.{refl}
use Rattle.domthelv.proofs.card_writing.domthelv_vr_card.Goals as goal

pub returns : goal.returns
returns c =
    let given = c.vr_card.ensures in
    (through_status _ _ _ _ refl given.0 c.number.ensures, given.1, given.2)
