-- `limits::same_bits` meets its contract. Assumes nothing.
use Rattle.limits.specs.Limits.{same_bits}
use Rattle.number.proofs.Bits.{own_is}
use Rattle.limits.proofs.same_bits.Goals as goal

pub returns : goal.returns
unfolding same_bits
returns c = rw (own_is c.args.x, own_is c.args.y, c.bits_of-2.ensures, c.bits_of.ensures)
