-- `domthelv::functions::deliver_list` meets its contract. Assumes nothing.
use mathlib.Core.Path.{refl}
use Rattle.mie_parameters.specs.Answer.{verdict, status, stored}
use Rattle.domthelv.proofs.functions.deliver_list.Goals as goal

pub copy_from_slice-requires : goal.copy_from_slice-requires
copy_from_slice-requires g c = c.requires _ c.in-Ok.is

pub returns-in-Err : goal.returns-in-Err
unfolding status verdict stored
returns-in-Err g c = rw c.in-Err.is (c.code.ensures, refl)

pub returns-in-Ok : goal.returns-in-Ok
unfolding status verdict stored
returns-in-Ok g c = rw c.in-Ok.is (refl, c.copy_from_slice.ensures.after)
