-- `saftvrqmie_dispersion_sums::inv_x_s_sum` meets its contract. Assumes nothing.
use mathlib.Core.Bool.{true}
use lib.Ieee.{of_bits}
use Rattle.number.specs.Arith.{decimal}
use Rattle.saftvrqmie_dispersion_sums.specs.Dispersion.{inv_xs_sum}
use Rattle.saftvrqmie_dispersion_sums.proofs.inv_x_s_sum.Goals as goal

pub returns : goal.returns
unfolding inv_xs_sum decimal of_bits
returns g c = rw (c.recip.ensures true, c.segment_density-sum.ensures true)
