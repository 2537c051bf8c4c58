-- `desk_calls::submit` meets its contract. Assumes nothing.
use Rattle.desk_calls.proofs.Ways.{submit_is}
use Rattle.desk_calls.proofs.submit.Goals as goal

pub returns : goal.returns
returns c = submit_is _ _ _ _ _ _ _ c.submit-answer.ensures.0 c.submit-answer.ensures.1 c.deliver.ensures
