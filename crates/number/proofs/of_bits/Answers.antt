-- `number::of_bits` meets its contract. Assumes nothing.
use lib.Ieee.{div, of_bits}
use Rattle.std.proofs.lemmas.Float.{not_nan_f64_bits}
use Rattle.number.proofs.Bits.{nan_read}
use Rattle.number.proofs.of_bits.Goals as goal

pub float_from_bits-result : goal.float_from_bits-result
float_from_bits-result c = not_nan_f64_bits c.args.n c.if-n-gt9218868437227405312.false

pub returns-then-n-gt9218868437227405312 : goal.returns-then-n-gt9218868437227405312
unfolding div of_bits
returns-then-n-gt9218868437227405312 c = nan_read c.args.n c.if-n-gt9218868437227405312.true
