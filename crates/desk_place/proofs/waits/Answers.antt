-- `desk_place::waits` meets its contract. Assumes nothing.
use Rattle.desk_place.proofs.Steps.{waits_is}
use Rattle.desk_place.proofs.waits.Goals as goal

pub returns : goal.returns
returns c = waits_is _ _ _ _ _ c.byte_at-n.ensures c.byte_at-i.ensures c.byte_at-j.ensures c.index_within.ensures
