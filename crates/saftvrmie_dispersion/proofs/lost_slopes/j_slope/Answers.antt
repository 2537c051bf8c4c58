-- `saftvrmie_dispersion::lost_slopes::j_slope` meets its contract. Assumes nothing.
use lib.Ieee.{nan_bits}
use Prim.{tt}
use Rattle.saftvrmie_dispersion.proofs.Slope.{slope_is}
use Rattle.saftvrmie_dispersion.specs.Slope.{j_slope}
use Rattle.saftvrmie_dispersion.proofs.lost_slopes.j_slope.Goals as goal

pub returns-then-not-finite : goal.returns-then-not-finite
unfolding j_slope
returns-then-not-finite c =
    rw (
      c.neg.ensures,
      c.sub-then-not-finite.ensures,
      c.sub.ensures,
      c.add-z.ensures,
      c.mul-then-not-finite-3.ensures,
      c.mul-then-not-finite-2.ensures,
      c.add-a.ensures,
      c.mul-then-not-finite.ensures,
      c.mul.ensures,
      c.point-zero.ensures,
    )

pub float_from_bits-result : goal.float_from_bits-result
unfolding nan_bits
float_from_bits-result c = tt

pub float_from_bits-result-2 : goal.float_from_bits-result-2
unfolding nan_bits
float_from_bits-result-2 c = tt

pub returns : goal.returns
returns c =
    slope_is c.args.p4 c.args.p3 c.args.l3 c.args.l4
    c.finite_ends.ensures c.finite_ends-2.ensures c.finite_ends-3.ensures c.finite_ends-4.ensures
    c.if-not-finite.false
