-- `saftvrmie_diameter::F64InverseBase::inverse_base` meets its contract. Assumes nothing.
use Rattle.dual_num.specs.Laws.{float_is}
use Rattle.saftvrmie_diameter.proofs.F64InverseBase.inverse_base.Goals as goal

pub returns : goal.returns
returns c w = rw (c.log_base.ensures, c.base_inside.ensures) (float_is c.args.self)
