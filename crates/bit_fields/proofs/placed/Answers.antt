-- `bit_fields::placed` meets its contract. Assumes nothing.
use native.Mathlib.Omega.{arith}
use Rattle.bit_fields.proofs.Written.{placed_small, placed_digits}
use Rattle.bit_fields.proofs.placed.Goals as goal

pub overflow_cast-result : goal.overflow_cast-result
overflow_cast-result c = omega (arith, placed_small c.args.b c.args.s c.args.n c.args.v c.ranges.b.fits c.requires _ _ _ _ c.from-byte.ensures c.lowest.ensures c.lowest-2.ensures c.lowest-low.ensures)

pub returns : goal.returns
returns c = placed_digits c.args.b c.args.s c.args.n c.args.v c.ranges.b.fits c.requires _ _ _ _ c.from-byte.ensures c.lowest.ensures c.lowest-2.ensures c.lowest-low.ensures
