-- `domthelv::quantum::domthelv_vrq_record_m` meets its contract. Assumes nothing.
use Rattle.domthelv.proofs.Operations.{outcome_status}
use Rattle.domthelv.proofs.quantum.domthelv_vrq_record_m.Goals as goal

pub returns : goal.returns
returns c = outcome_status c.record_m-answer.result _ _ c.record_m-answer.ensures c.number.ensures
