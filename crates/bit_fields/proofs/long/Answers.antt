-- `bit_fields::long` meets its contract. Assumes nothing.
use Prim.Native.Nat.{◌%◌, ◌<◌}
use native.Mathlib.Omega.{arith}
use Rattle.bit_fields.proofs.Bytes.{long_across, long_fits}
use Rattle.bit_fields.proofs.long.Goals as goal

pub overflow_add-result : goal.overflow_add-result
overflow_add-result c = let z : 0 < c.args.at % 8 = omega arith in omega (arith, long_fits c.args.l.now (λ i. omega (arith, c.shared_slice_known-1.given i)) c.args.at _ _ c.requires c.word-high.ensures z c.from.ensures)

pub returns : goal.returns
returns c = let z : 0 < c.args.at % 8 = omega arith in long_across c.args.l.now (λ i. omega (arith, c.shared_slice_known-1.given i)) c.args.at _ _ c.requires c.word-high.ensures z c.from.ensures
