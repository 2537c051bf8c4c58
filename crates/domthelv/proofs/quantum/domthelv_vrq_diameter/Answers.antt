-- `domthelv::quantum::domthelv_vrq_diameter` meets its contract. Assumes nothing.
use Rattle.domthelv.proofs.Operations.{delivered}
use Rattle.domthelv.proofs.quantum.domthelv_vrq_diameter.Goals as goal

pub returns : goal.returns
returns c = delivered _ _ _ _ _ c.deliver.ensures c.diameter.ensures
