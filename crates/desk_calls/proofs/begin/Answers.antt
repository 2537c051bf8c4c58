-- `desk_calls::begin` meets its contract. Assumes nothing.
use Rattle.desk_calls.proofs.Ways.{status_is}
use Rattle.desk_calls.proofs.begin.Goals as goal

pub returns : goal.returns
returns c = (status_is _ _ _ c.begin-answer.ensures.0 c.number.ensures, c.begin-answer.ensures.1)
