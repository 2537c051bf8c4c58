-- `number::bits_of` meets its contract. Assumes nothing.
use Rattle.number.proofs.Bits.{own_no}
use Rattle.number.proofs.bits_of.Goals as goal

pub returns-else-x : goal.returns-else-x
returns-else-x c = own_no c.args.x c.if-x.false
