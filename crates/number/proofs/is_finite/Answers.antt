-- `number::is_finite` meets its contract. Assumes nothing.
use lib.Ieee.{nan_bits, of_bits, neg}
use Rattle.number.proofs.Finite.{finite_yes, finite_no}
use Rattle.number.proofs.is_finite.Goals as goal

pub float_from_bits-inf : goal.float_from_bits-inf
unfolding nan_bits
float_from_bits-inf c = tt

pub returns-then-x-inf : goal.returns-then-x-inf
unfolding of_bits neg
returns-then-x-inf c = finite_yes c.args.x c.if-x-inf.true

pub returns-else-x-inf : goal.returns-else-x-inf
unfolding of_bits
returns-else-x-inf c = finite_no c.args.x c.if-x-inf.false
