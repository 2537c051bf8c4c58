-- `desk_place::in_hand` meets its contract. Assumes nothing.
use Rattle.desk_place.proofs.Steps.{waits_is}
use mathlib.Core.Path.{refl, ◌∙◌}
use Rattle.desk_place.proofs.in_hand.Goals as goal

pub invariant_of-result : goal.invariant_of-result
invariant_of-result c = record { within = waits_is _ _ _ _ _ c.byte_at.ensures c.byte_at-2.ensures c.byte_at-3.ensures refl ∙ c.requires.1 }
