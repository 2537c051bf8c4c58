-- `domthelv::quantum::domthelv_vrq_table` meets its contract. Assumes nothing.
use Rattle.domthelv.proofs.Operations.{through_status}
use mathlib.Core.Path.{refl}
use Rattle.domthelv.proofs.quantum.domthelv_vrq_table.Goals as goal

pub returns : goal.returns
returns c = let e = c.table_of.ensures in (through_status _ _ _ _ refl e.0 c.number.ensures, e.1, e.2)
