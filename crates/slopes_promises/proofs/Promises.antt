-- Slip 1 as one result. Assumes nothing.
use Rattle.slopes_promises.specs.Promises.{Promises}
use Rattle.slopes_promises.proofs.Table.{table_kept}
use Rattle.slopes_promises.proofs.Operation.{energies_kept}

pub promises : Promises
promises =
    record {
      table_kept = λ s t w l right within e. table_kept s t w l right within e;
      energies_kept = λ s q wanted e l p r h. energies_kept s q wanted e l p r h;
    }
