-- `mie_parameters::deliver` meets its contract. Assumes nothing.
use mathlib.Core.Path.{refl}
use Rattle.mie_parameters.specs.Answer.{verdict, status, stored}
use Rattle.mie_parameters.proofs.deliver.Goals as goal

pub returns-in-Err : goal.returns-in-Err
unfolding status verdict stored
returns-in-Err g c = rw c.in-Err.is (c.code.ensures, refl)

pub returns-in-Ok : goal.returns-in-Ok
unfolding status verdict stored
returns-in-Ok g c = (rw c.in-Ok.is, rw c.in-Ok.is)
