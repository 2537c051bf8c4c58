-- `desk_calls::hand_out` meets its contract. Assumes nothing.
use Rattle.desk_calls.proofs.Ways.{number_out, energies_out}
use mathlib.Core.Path.{ap}
use Rattle.saftvrqmie_energies.specs.Energies.{energies_answer}
use Rattle.desk_calls.proofs.hand_out.Goals as goal

pub returns-in-Err : goal.returns-in-Err
returns-in-Err c = rw c.code.ensures (number_out _ _ _ (ap energies_answer c.in-Err.is))

pub copy_from_slice-requires : goal.copy_from_slice-requires
copy_from_slice-requires c = c.requires

pub returns-in-Ok : goal.returns-in-Ok
returns-in-Ok c = energies_out _ _ _ (ap energies_answer c.in-Ok.is) _ c.copy_from_slice.ensures.after
