use mathlib.Core.Path.{sym}
use native.Mathlib.Nat.{lt_of_lt_of_le, div-eq_of_lt}
use native.Mathlib.Omega.{arith}
use lib.Pow.{pow_mono}
use Rattle.fixed_point.proofs.shift_right.Goals as goal

pub returns-else-n-lt64 : goal.returns-else-n-lt64
returns-else-n-lt64 c = sym (div-eq_of_lt (lt_of_lt_of_le c.ranges.y.fits (pow_mono {i = 64} {j = c.args.n} (omega arith))))
