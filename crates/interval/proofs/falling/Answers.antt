-- `interval::falling` meets its contract. Assumes nothing.
use Rattle.number.proofs.Rank.{finite_no_nan}
use Rattle.std.proofs.lemmas.Float.{not_nan_f64_bits}
use native.Mathlib.Omega.{arith}
use lib.Ieee.{binary64, to_bits}
use Prim.Native.Nat.{◌+◌, ◌-◌}
use Rattle.interval.proofs.Near.{fallen}
use Rattle.interval.proofs.falling.Goals as goal

pub float_to_bits-p : goal.float_to_bits-p
float_to_bits-p c = finite_no_nan c.args.a c.requires.0.0

pub float_to_bits-q : goal.float_to_bits-q
float_to_bits-q c = finite_no_nan c.args.b c.requires.1.0

pub float_from_bits-result : goal.float_from_bits-result
float_from_bits-result c = let h = c.requires.0.1 in let k = c.requires.0.2 in not_nan_f64_bits (to_bits binary64 c.args.a + 1) (omega arith)

pub float_from_bits-result-2 : goal.float_from_bits-result-2
float_from_bits-result-2 c = let h = c.requires.1.1 in let k = c.requires.1.2 in not_nan_f64_bits (to_bits binary64 c.args.b - 1) (omega arith)

pub returns : goal.returns
returns c = fallen c.args.g c.args.a c.args.b c.requires.0 c.requires.1
